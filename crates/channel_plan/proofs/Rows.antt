-- One row more behind the rows of some vertices. `rows-push` adds the row by recursion over the colours before it,
-- `rows-more` says so of the first i + 1 of some colours, and `rows-step` of a text that is written row by row.
use Rattle.std.proofs.Common.{◌≡◌, ℕ, suc, ◌+◌, List, [], ◌∷◌, ◌++◌, ◌<◌, length, take, get_or, ap, sym, ◌∙◌, arith}
use Rattle.std.proofs.Math.Seq.{take-suc}
use Rattle.std.proofs.lemmas.List.{append_assoc, append-nil, length-take-le}
use Rattle.number_rows.specs.Row.{row}
use Rattle.channel_plan.specs.PlanText.{rows_from}

-- the row of a vertex and its colour
abbrev row_of : ℕ → ℕ → List ℕ
row_of v colour = row (v ∷ (colour + 1) ∷ [])

pub rows-push : (v : ℕ) (colours : List ℕ) (colour : ℕ)
    → rows_from v (colours ++ colour ∷ []) ≡ rows_from v colours ++ row_of (v + length colours) colour
rows-push v [] colour =
    let here : v ≡ v + 0 = omega arith in
    append-nil (row_of v colour) ∙ ap (λ (n : ℕ). row_of n colour) here
rows-push v (c ∷ colours) colour =
    let next : v + 1 + length colours ≡ v + suc (length colours) = omega arith in
    ap (λ (rest : List ℕ). row_of v c ++ rest) (rows-push (v + 1) colours colour)
    ∙ (sym (append_assoc (row_of v c) (rows_from (v + 1) colours) (row_of (v + 1 + length colours) colour))
    ∙ ap (λ (n : ℕ). rows_from v (c ∷ colours) ++ row_of n colour) next)

rows-more : (colours : List ℕ) (i : ℕ) → i < length colours
    → rows_from 1 (take (i + 1) colours) ≡ rows_from 1 (take i colours) ++ row_of (i + 1) (get_or colours i 0)
rows-more colours i below =
    let last : ℕ = get_or colours i 0 in
    let next : i + 1 ≡ suc i = omega arith in
    let cut : take (i + 1) colours ≡ take i colours ++ last ∷ [] =
    ap (λ (n : ℕ). take n colours) next ∙ take-suc colours i 0 below in
    let taken : length (take i colours) ≡ i = length-take-le i colours (omega arith) in
    let size : 1 + length (take i colours) ≡ i + 1 = omega arith in
    ap (rows_from 1) cut
    ∙ (rows-push 1 (take i colours) last
    ∙ ap (λ (n : ℕ). rows_from 1 (take i colours) ++ row_of n last) size)

pub rows-step : (start before after colours : List ℕ) (i colour : ℕ)
    → i < length colours → colour ≡ get_or colours i 0
    → before ≡ start ++ rows_from 1 (take i colours) → after ≡ before ++ row_of (i + 1) colour
    → after ≡ start ++ rows_from 1 (take (i + 1) colours)
rows-step start before after colours i colour below is e f =
    let last : ℕ = get_or colours i 0 in
    f
    ∙ (ap (λ (c : ℕ). before ++ row_of (i + 1) c) is
    ∙ ap (λ (text : List ℕ). text ++ row_of (i + 1) last) e
    ∙ (append_assoc start (rows_from 1 (take i colours)) (row_of (i + 1) last)
    ∙ ap (λ (rows : List ℕ). start ++ rows) (sym (rows-more colours i below))))

-- Clashes among the vertices that are left, and a table beside the rows that it was made of.
use Rattle.std.proofs.Common.{◌≡◌, ◌<◌, ◌≤◌, ◌+◌, ◌-◌, ◌∙◌, ℕ, Bool, Option, Some, None, List, arith, ap, cond, drop, get_or, is_none, length}
use Rattle.std.proofs.lemmas.List.{at_drop_all, at_drop_more}
use Rattle.std.proofs.lemmas.List.FromFn.{get_or-range_with_len, length-range_with_len}
use Rattle.std.specs.List.{find}
use Rattle.std.specs.Option.{option_or}
use Rattle.interference.specs.Net.{Net, count_of, vertices}
use Rattle.channel_plan.specs.Checked.{Channels, clash_among, clash_at, channels_in}

-- one vertex more
pub clash-more : (net : Net) (channels : Channels) (i : ℕ) → i < count_of net →
    clash_among net channels (drop i (vertices net)) ≡ option_or (clash_at net channels (i + 1)) (clash_among net channels (drop (i + 1) (vertices net)))
clash-more net channels i below =
    let size : length (vertices net) ≡ count_of net = length-range_with_len 1 (count_of net) in
    let here : get_or (vertices net) i 0 ≡ i + 1 = get_or-range_with_len 1 (count_of net) i 0 below ∙ omega arith in
    at_drop_more (clash_among net channels) (vertices net) i 0 (omega (arith, size)) ∙
    ap (λ v. option_or (clash_at net channels v) (clash_among net channels (drop (i + 1) (vertices net)))) here

pub clash-end : (net : Net) (channels : Channels) (i : ℕ) → count_of net ≤ i → clash_among net channels (drop i (vertices net)) ≡ None
clash-end net channels i end = at_drop_all (clash_among net channels) (vertices net) i (omega (arith, length-range_with_len 1 (count_of net)))

pub missing-more : (net : Net) (channels : Channels) (i : ℕ) (b : Bool) → i < count_of net → is_none (channels (i + 1)) ≡ b →
    find (λ v. is_none (channels v)) (drop i (vertices net)) ≡ cond b (Some (i + 1)) (find (λ v. is_none (channels v)) (drop (i + 1) (vertices net)))
missing-more net channels i b below e =
    let size : length (vertices net) ≡ count_of net = length-range_with_len 1 (count_of net) in
    let here : get_or (vertices net) i 0 ≡ i + 1 = get_or-range_with_len 1 (count_of net) i 0 below ∙ omega arith in
    let left = find (λ v. is_none (channels v)) (drop (i + 1) (vertices net)) in
    at_drop_more (find (λ v. is_none (channels v))) (vertices net) i 0 (omega (arith, size))
    ∙ ap (λ v. cond (is_none (channels v)) (Some v) left) here ∙ ap (λ t. cond t (Some (i + 1)) left) e

pub missing-end : (net : Net) (channels : Channels) (i : ℕ) → count_of net ≤ i → find (λ v. is_none (channels v)) (drop i (vertices net)) ≡ None
missing-end net channels i end = at_drop_all (find (λ v. is_none (channels v))) (vertices net) i (omega (arith, length-range_with_len 1 (count_of net)))

-- entry i of a table is of vertex i + 1
pub look-next : (table : List (Option ℕ)) (i : ℕ) → is_none (channels_in table (i + 1)) ≡ is_none (get_or table i None)
look-next table i = let e : i + 1 - 1 ≡ i = omega arith in ap (λ k. is_none (get_or table k None)) e

-- What an error says of a text, and what the parts of a text that a function appends come to.
use Rattle.std.proofs.Common.{◌≡◌, ◌∙◌, ◌≤◌, ◌<◌, ◌+◌, ℕ, suc, arith, true, false, nat_eq, ap, ap₂, sym, refl}
use Rattle.std.proofs.Common.{List, [], ◌∷◌, ◌++◌, append-nil, codes, get_or, length, take}
use Rattle.std.specs.Prelude.{Bool, if◌then◌else◌}
use Rattle.std.specs.List.{flat_map}
use Rattle.std.proofs.lemmas.List.{get_or_default}
use Rattle.std.proofs.lemmas.List.Concat.{flat_map-append}
use Rattle.interference.specs.Net.{Net}
use Rattle.alpha_core.specs.View.{View, is_halted}
use Rattle.event_rule.proofs.Parts.{take-split}
use Rattle.event_texts.specs.Missing.{lack_text, lacking, last_text, pulse_text, safe_words}
use Rattle.event_texts.specs.declared.missing.Lack.TheVariants.{Ack, Safe}
use Rattle.number_rows.proofs.Ranges.{behind}

-- why a vertex doesn't make its next pulse
module _ {M : Type 0} (net : Net) (last v : ℕ) (view : View M) (text : List ℕ) (p : ℕ) (pulse : p ≡ view.pulse) (halted : Bool)
    (of : halted ≡ is_halted last view) where
  lacks_text : List ℕ
  lacks_text =
      lack_text (codes ": ack ") view.pulse (lacking net v view Ack)
      ++ lack_text (safe_words (lacking net v view Ack)) view.pulse (lacking net v view Safe)

  pub last_written : halted ≡ true → text ++ last_text p ≡ text ++ pulse_text net last v view
  unfolding lacks_text
  last_written is = ap (λ q. text ++ last_text q) pulse ∙ ap (λ b. text ++ (if b then last_text view.pulse else lacks_text)) (sym is ∙ of)

  -- the words of both lists, the first of which is there or isn't
  pub lacks_written : halted ≡ false → (next acks safes words : List ℕ) → next ≡ text ++ lack_text (codes ": ack ") p acks
      → acks ≡ lacking net v view Ack → safes ≡ lacking net v view Safe → words ≡ safe_words acks
      → next ++ lack_text words p safes ≡ text ++ pulse_text net last v view
  unfolding lacks_text
  lacks_written is next acks safes words first acks_are safes_are words_are =
      behind text (lack_text (codes ": ack ") p acks) (lack_text words p safes) next (next ++ lack_text words p safes) first refl
      ∙ ap (λ q. text ++ (lack_text (codes ": ack ") q acks ++ lack_text words q safes)) pulse
      ∙ ap (λ ws. text ++ (lack_text (codes ": ack ") view.pulse acks ++ lack_text ws view.pulse safes)) words_are
      ∙ ap₂ (λ a s. text ++ (lack_text (codes ": ack ") view.pulse a ++ lack_text (safe_words a) view.pulse s)) acks_are safes_are
      ∙ ap (λ b. text ++ (if b then last_text view.pulse else lacks_text)) (sym is ∙ of)

-- the words before the second list
pub words_none : (acks : List ℕ) (none : Bool) → none ≡ nat_eq (length acks) 0 → none ≡ true → codes ": safe " ≡ safe_words acks
words_none acks none of is = ap (λ b. if b then codes ": safe " else codes "; safe ") (sym is ∙ of)

pub words_some : (acks : List ℕ) (none : Bool) → none ≡ nat_eq (length acks) 0 → none ≡ false → codes "; safe " ≡ safe_words acks
words_some acks none of is = ap (λ b. if b then codes ": safe " else codes "; safe ") (sym is ∙ of)

-- where the numbers of a loop end
pub at_end : (i end n : ℕ) → i ≤ end → end ≤ i → end ≡ n → i ≡ n
at_end i end n le ge is = omega arith

-- the texts of rows, and of one row more
pub rows_more : {X : Type 0} (f : X → List ℕ) (xs : List X) (i : ℕ) (d : X) → i < length xs → (front so_far next : List ℕ)
    → so_far ≡ front ++ flat_map f (take i xs) → next ≡ so_far ++ f (get_or xs i d) → next ≡ front ++ flat_map f (take (i + 1) xs)
rows_more f xs i d lt front so_far next e is =
    let x = get_or xs i d in
    let more : i + 1 ≡ suc i = omega arith in
    let split = take-split xs i x lt (get_or_default xs i d x lt) in
    behind front (flat_map f (take i xs)) (f x) so_far next e is
    ∙ ap (λ l. front ++ l) (sym (ap (λ n. flat_map f (take n xs)) more ∙ ap (λ l. flat_map f l) split.0
    ∙ flat_map-append f (take i xs) (x ∷ []) ∙ ap (λ l. flat_map f (take i xs) ++ l) (append-nil (f x))))

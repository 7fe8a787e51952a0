-- A sequel that sends nothing, after two pulses of the program that spreads the greatest identifier over three.
use Rattle.std.specs.Prelude.{ℕ, ◌^◌, ◌&&◌, if◌then◌else◌, nat_eq, nat_lt, List, Option, Some, None, Ok, codes}
use Rattle.std.specs.Cmp.Lexicographic.{pointwise}
use Rattle.node_api.specs.Boxes.{nothing}
use Rattle.sync_rounds.specs.declared.greatest.Best.{Best}
use Rattle.sync_rounds.specs.Greatest.{Known}
use Rattle.followed.specs.Followed.{Sequel}

-- what it has beside is the number of the pulse that it made last; B are its payloads
abbrev pub pauses : {B : Type 0} → Sequel Known ℕ Best B
pauses = record {
  until = λ x. 2;
  last = λ sizes again. 4;
  begin = λ own. 0;
  next = λ s x q inbox. Ok (q, nothing s.degree);
}

-- The text of a payload: the word `paused` and its number; `made` makes a payload of a number.
abbrev pub paused_from : {B : Type 0} → (ℕ → B) → List ℕ → ℕ → Option B
paused_from made word number =
    if pointwise nat_eq word (codes "paused") && nat_lt number (2 ^ 32) then Some (made number) else None

-- What is known after one more line of events.
use Rattle.std.proofs.Common.{◌≡◌, ◌+◌, ◌++◌, ◌∷◌, [], ◌∙◌, ℕ, Option, Some, None, Result, Ok, Err, List, true, false, ap, refl, sym}
use Rattle.dimacs_col.specs.Lines.{Line}
use Rattle.event_rule.specs.declared.event.Event.{Event}
use Rattle.event_texts.specs.EventLines.{event_of}
use Rattle.event_texts.specs.Reader.{IsFaultOfReading, IsLineFault}
use Rattle.event_texts.specs.Reading.{Script, is_passed_word, known_after, read_from}
use Rattle.event_texts.specs.declared.fault.EventFault.{EventFault}
use Rattle.event_texts.specs.declared.fault.EventFault.TheVariants.{LinkEmpty, Memory, NoEvent, NoSuch, NotReady, NothingToPut}

-- ---- one line
pub known-blank : (n : ℕ) (known : Script) (line : Line) → line ≡ [] → known_after n known line ≡ Some known
unfolding known_after
known-blank n known line e = rw e refl

pub known-passed : (n : ℕ) (known : Script) (line words : Line) (word : List ℕ) → line ≡ word ∷ words → is_passed_word known word ≡ true →
    known_after n known line ≡ Some known
unfolding known_after
known-passed n known line words word e p = rw (e, p) refl

pub known-wrong : (n : ℕ) (known : Script) (line words : Line) (word : List ℕ) → line ≡ word ∷ words → is_passed_word known word ≡ false →
    event_of (word ∷ words) ≡ None → known_after n known line ≡ None
unfolding known_after
known-wrong n known line words word e p w = rw (e, p, w) refl

pub known-event : (n : ℕ) (known next : Script) (line words : Line) (word : List ℕ) (event : Event) → line ≡ word ∷ words → is_passed_word known word ≡ false →
    event_of (word ∷ words) ≡ Some event → next ≡ known ++ (n, event) ∷ [] → known_after n known line ≡ Some next
unfolding known_after
known-event n known next line words word event e p w is = rw (e, p, w, is) refl

-- ---- all lines
abbrev pub then_read : ℕ → List Line → Option Script → Result Script ℕ
then_read n lines known = elim known [ None ↦ Err n | Some next ↦ read_from (n + 1) next lines ]

pub read-one : (n : ℕ) (known : Script) (line : Line) (lines : List Line) → read_from n known (line ∷ lines) ≡ then_read n lines (known_after n known line)
unfolding read_from
read-one n known line lines = refl

-- at the end no line is left
pub read-end : (lines : List Line) (n : ℕ) (known : Script) (left : List Line) → left ≡ [] → read_from 1 [] lines ≡ read_from n known left →
    read_from 1 [] lines ≡ Ok known
unfolding read_from
read-end lines n known left none e = e ∙ ap (read_from n known) none

-- the fault of a line that is wrong where it stands
pub fault-line : (lines : List Line) (n : ℕ) (wrong : Type 0) (fault : EventFault) → (wrong → read_from 1 [] lines ≡ Err n) → IsLineFault wrong n fault →
    IsFaultOfReading lines fault
fault-line lines n wrong Memory reported is = tt
fault-line lines n wrong (NoEvent m) reported is = reported is.0 ∙ ap Err (sym is.1)
fault-line lines n wrong (NotReady m words) reported is = absurd is
fault-line lines n wrong (NothingToPut m words) reported is = absurd is
fault-line lines n wrong (LinkEmpty m words) reported is = absurd is
fault-line lines n wrong (NoSuch m) reported is = absurd is

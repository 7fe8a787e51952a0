use Rattle.std.proofs.Common.{◌≡◌, ℕ, List, Bool, ◌+◌, ◌*◌, ◌/◌, ◌<◌, ◌≤◌, true, false, length, ap, sym, ◌∙◌, arith, w64}
use Rattle.std.specs.Int.{trailing_zeros}
use Rattle.std.proofs.lemmas.Bool.Decides.{nat_tests}
use native.Mathlib.Decide.{dec_lt}
use Prim.{yes, no}
use Rattle.colour_base.specs.Words.{has_bit}
use Rattle.node_api.specs.Marks.{is_marked, marks_in}
use Rattle.node_api.proofs.Words.{length-marks_in, marks_in-at}
use Rattle.node_api.proofs.Finding.{IsRest, rest-first, rest-next, none-here, found-later, found-marked, found-first}
use Rattle.node_api.proofs.marks.Marks.first_from.Goals as goal

-- the marked place that there is, as a bit of the words
some_bit : (n : ℕ) (words : List ℕ) (marks : List Bool) (from : ℕ) → marks_in n words ≡ marks →
    (place : ℕ) × (from ≤ place) × (place < length marks) × (is_marked marks place ≡ true) →
    (place : ℕ) × (from ≤ place) × (place < n) × (has_bit words place ≡ true)
some_bit n words marks from is (place, later, below, marked) =
    let low : place < n = omega (arith, below, ap length is, length-marks_in n words) in
    (place, later, low, sym (marks_in-at n words place false low) ∙ (ap (λ l. is_marked l place) is ∙ marked))

pub get-requires : goal.get-requires
get-requires c =
    let a = c.self.inside in
    let (place, later, below, marked) = some_bit a.places a.words c.args.self.now c.args.from c.self.view_is c.requires.some in
    record { index = omega (arith, later, below, c.self.invariant.room) }

pub loop-rest-init : goal.loop-rest-init
loop-rest-init c =
    let a = c.self.inside in
    let (place, later, below, marked) = some_bit a.places a.words c.args.self.now c.args.from c.self.view_is c.requires.some in
    let inside : c.args.from / 64 < length a.words = omega (arith, later, below, c.self.invariant.room) in
    rest-first a.words c.args.from c.get.result c.get.ensures.word
    (omega arith) inside

-- a place that counts is beyond the words that were looked at
beyond : (words : List ℕ) (from word rest place : ℕ) → IsRest words from word rest → rest ≡ 0 → from ≤ place →
    has_bit words place ≡ true → (word + 1) * 64 ≤ place
beyond words from word rest place r none later marked =
    elim (dec_lt place ((word + 1) * 64)) [
      | yes low ↦ absurd (let wrong : false ≡ true = sym (none-here words from word rest r none place later low) ∙ marked in cc)
      | no other ↦ omega arith
    ]

pub get-rest-requires : goal.get-rest-requires
get-rest-requires c =
    let a = c.self.inside in
    let l = c.loop-rest in
    let (place, later, below, marked) = some_bit a.places a.words c.args.self.now c.args.from c.self.view_is c.requires.some in
    let none : l.rest ≡ 0 = grind (arith, nat_tests, c.loop-rest-test.true) in
    record { index = omega (arith, beyond a.words c.args.from l.word l.rest place l.invariant none later marked, below, c.self.invariant.room) }

pub overflow_add-word : goal.overflow_add-word
overflow_add-word c =
    let a = c.self.inside in
    let l = c.loop-rest in
    let (place, later, below, marked) = some_bit a.places a.words c.args.self.now c.args.from c.self.view_is c.requires.some in
    let none : l.rest ≡ 0 = grind (arith, nat_tests, c.loop-rest-test.true) in
    omega (
      arith,
      beyond a.words c.args.from l.word l.rest place l.invariant none later marked,
      below,
      ap length c.self.view_is,
      length-marks_in a.places a.words,
      c.self.invariant.small,
    )

pub loop-rest-preserved : goal.loop-rest-preserved
loop-rest-preserved c =
    let a = c.self.inside in
    let l = c.loop-rest in
    let (place, later, below, marked) = some_bit a.places a.words c.args.self.now c.args.from c.self.view_is c.requires.some in
    let none : l.rest ≡ 0 = grind (arith, nat_tests, c.loop-rest-test.true) in
    let far = beyond a.words c.args.from l.word l.rest place l.invariant none later marked in
    let inside : l.word + 1 < length a.words = omega (arith, far, below, c.self.invariant.room) in
    rest-next a.words c.args.from l.word l.rest l.invariant none c.get-rest.result c.get-rest.ensures.word (omega arith) inside
    (omega (arith, l.invariant.past))

-- something is left of the word: its lowest place is no later than the one that there is, and so it is one of the places
found-below : (n : ℕ) (words : List ℕ) (marks : List Bool) (from word rest : ℕ) → IsRest words from word rest → (rest ≡ 0 → ⊥) →
    marks_in n words ≡ marks → (place : ℕ) × (from ≤ place) × (place < length marks) × (is_marked marks place ≡ true) →
    (0 < rest) × (word * 64 + trailing_zeros w64 rest < n)
found-below n words marks from word rest r left is there =
    let (place, later, below, marked) = some_bit n words marks from is there in
    let some : 0 < rest = omega (arith, left) in (
      some,
      elim (dec_lt place (word * 64 + trailing_zeros w64 rest)) [
        | yes low ↦ absurd (let wrong : false ≡ true = sym (found-first words from word rest r some place later low) ∙ marked in cc)
        | no other ↦ omega (arith, below)
      ],
    )

pub overflow_mul-result : goal.overflow_mul-result
overflow_mul-result c =
    let a = c.self.inside in
    let l = c.loop-rest in
    let (some, low) =
    found-below a.places a.words c.args.self.now c.args.from l.word l.rest l.invariant c.loop-rest-test.false c.self.view_is c.requires.some in
    omega (arith, low, c.self.invariant.small)

pub overflow_cast-result : goal.overflow_cast-result
overflow_cast-result c =
    let a = c.self.inside in
    let l = c.loop-rest in
    let (some, low) =
    found-below a.places a.words c.args.self.now c.args.from l.word l.rest l.invariant c.loop-rest-test.false c.self.view_is c.requires.some in
    omega (arith, low, c.self.invariant.small)

pub overflow_add-result : goal.overflow_add-result
overflow_add-result c =
    let a = c.self.inside in
    let l = c.loop-rest in
    let (some, low) =
    found-below a.places a.words c.args.self.now c.args.from l.word l.rest l.invariant c.loop-rest-test.false c.self.view_is c.requires.some in
    omega (arith, low, c.self.invariant.small)

pub returns-clause-later : goal.returns-clause-later
returns-clause-later c =
    let a = c.self.inside in
    let l = c.loop-rest in
    let (some, low) =
    found-below a.places a.words c.args.self.now c.args.from l.word l.rest l.invariant c.loop-rest-test.false c.self.view_is c.requires.some in
    found-later a.words c.args.from l.word l.rest l.invariant some

pub returns-clause-within : goal.returns-clause-within
returns-clause-within c =
    let a = c.self.inside in
    let l = c.loop-rest in
    let (some, low) =
    found-below a.places a.words c.args.self.now c.args.from l.word l.rest l.invariant c.loop-rest-test.false c.self.view_is c.requires.some in
    omega (arith, low, ap length c.self.view_is, length-marks_in a.places a.words)

pub returns-clause-marked : goal.returns-clause-marked
returns-clause-marked c =
    let a = c.self.inside in
    let l = c.loop-rest in
    let (some, low) =
    found-below a.places a.words c.args.self.now c.args.from l.word l.rest l.invariant c.loop-rest-test.false c.self.view_is c.requires.some in
    ap (λ m. is_marked m (l.word * 64 + trailing_zeros w64 l.rest)) (sym c.self.view_is)
    ∙ (marks_in-at a.places a.words (l.word * 64 + trailing_zeros w64 l.rest) false low
    ∙ found-marked a.words c.args.from l.word l.rest l.invariant some)

pub returns-clause-first : goal.returns-clause-first
returns-clause-first c =
    let a = c.self.inside in
    let l = c.loop-rest in
    let (some, low) =
    found-below a.places a.words c.args.self.now c.args.from l.word l.rest l.invariant c.loop-rest-test.false c.self.view_is c.requires.some in
    λ q after before.
    (let below : q < a.places = omega (arith, low, before) in
    ap (λ m. is_marked m q) (sym c.self.view_is)
    ∙ (marks_in-at a.places a.words q false below
    ∙ found-first a.words c.args.from l.word l.rest l.invariant some q after before))

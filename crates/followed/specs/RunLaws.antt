-- The run of a program that is followed: up to the cut it is that program's, and then each node keeps its state of it.
use Rattle.std.proofs.Common.{◌≡◌, ℕ, zero, suc, ◌+◌, ◌-◌, ◌<◌, ◌≤◌, Bool, true, false, List, [], ◌∷◌}
use Rattle.std.proofs.Common.{refl, ap, sym, ◌∙◌, arith}
use Rattle.std.proofs.lemmas.Bool.{le-leb, lt-leb}
use Rattle.std.proofs.lemmas.Simd.{map-map}
use Rattle.std.specs.Prelude.{if◌then◌else◌, map, nat_le, Option, Some, None, Result, Ok, Err, IsOk, IfOk}
use native.Mathlib.Decide.{dec_lt}
use Prim.{yes, no}
use Rattle.interference.specs.Net.{Net, IsNetwork, IsVertex, degree_of, neighbours, neighbour_of, port_to}
use Rattle.node_api.specs.Boxes.{at_port, fold_slots, nothing}
use Rattle.node_api.specs.Program.{own_of, Program, RestsUntil, sizes_of}
use Rattle.node_api.specs.Run.{after, inbox_from, node_at, state_at}
use Rattle.node_api.specs.declared.program.Refused.{Refused}
use Rattle.node_api.proofs.Inboxes.{map-members}
use Rattle.node_api.proofs.Runs.{node_at-none, node_at-more}
use Rattle.followed.specs.declared.said.Said.{Said}
use Rattle.followed.specs.Said.{and_misplaced, firsts, misplaced, said, told_by}
use Rattle.followed.specs.Followed.{Both, Sequel, IsCut, beside_of, followed, followed_next, heard_next, keeping}
use Rattle.followed.specs.Followed.{through}
use Rattle.followed.specs.Followed.{told_next, unless_early, with_beside}

-- what is told of nothing is nothing
pub said-nothing : {A B : Type 0} (n : ℕ) → map (said {A = A} {B = B}) (nothing n) ≡ nothing n
said-nothing zero = refl
said-nothing {A = A} {B = B} (suc n) = ap (λ rest. None ∷ rest) (said-nothing {A = A} {B = B} n)

-- what is said at a port
pub at_port-said : {A B : Type 0} (slots : List (Option A)) (port : ℕ)
    → at_port (map (said {A = A} {B = B}) slots) port ≡ said (at_port slots port)
at_port-said [] port = refl
at_port-said (slot ∷ slots) zero = refl
at_port-said {B = B} (slot ∷ slots) (suc port) = at_port-said {B = B} slots port

-- what the first program hears of its own payloads
pub firsts-said : {A : Type 0} (B : Type 0) (slots : List (Option A))
    → firsts (map (said {A = A} {B = B}) slots) ≡ slots
firsts-said B [] = refl
firsts-said B (None ∷ slots) = ap (λ rest. None ∷ rest) (firsts-said B slots)
firsts-said B (Some x ∷ slots) = ap (λ rest. Some x ∷ rest) (firsts-said B slots)

none-misplaced : {A : Type 0} (B : Type 0) (slots : List (Option A)) (port : ℕ)
    → fold_slots and_misplaced None port (map (said {A = A} {B = B}) slots) ≡ None
none-misplaced B [] port = refl
none-misplaced B (None ∷ slots) port = none-misplaced B slots (port + 1)
none-misplaced B (Some x ∷ slots) port = none-misplaced B slots (port + 1)

pub misplaced-said : {A : Type 0} (B : Type 0) (slots : List (Option A))
    → misplaced (map (said {A = A} {B = B}) slots) ≡ None
misplaced-said B slots = none-misplaced B slots 0

module _ {S X A : Type 0} (B : Type 0) (x : X) where
  after-through : (s : S) (degree : ℕ) (r : Result (S × List (Option A)) Refused) →
      after (record { first = s; beside = x }) degree (through x (told_next {B = B} r))
      ≡ with_beside x (told_by (after s degree r))
  after-through s degree (Ok node) = refl
  after-through s degree (Err refused) =
      ap (λ (out : List (Option (Said A B))). (record { first = s; beside = x }, out))
      (sym (said-nothing {A = A} {B = B} degree))

  pub through-ok : (r : Result (S × List (Option A)) Refused) → IsOk r → IsOk (through x (told_next {B = B} r))
  through-ok (Ok node) h = refl
  through-ok (Err refused) h = h

pub keeping-ok : {S X M : Type 0} (s : S) (r : Result (X × List (Option M)) Refused) → IsOk r → IsOk (keeping s r)
keeping-ok s (Ok node) h = refl
keeping-ok s (Err refused) h = h

module _ {S X A B : Type 0} (first : Program S A Refused) (sequel : Sequel S X A B) where
  -- the first program hears what was said by the first program
  heard-said : (s : S) (p : ℕ) (inbox : List (Option A))
      → heard_next {B = B} first s p (map said inbox) ≡ told_next (first.next s p inbox)
  heard-said s p inbox =
      ap (λ found. unless_early found (told_next {B = B} (first.next s p (firsts (map (said {A = A} {B = B}) inbox)))))
      (misplaced-said B inbox)
      ∙ ap (λ slots. told_next {B = B} (first.next s p slots)) (firsts-said B inbox)

  pub next-early : (s : Both S X) (p cut : ℕ) (inbox : List (Option (Said A B))) → sequel.until s.beside ≡ cut
      → p ≤ cut →
      followed_next first sequel s p inbox ≡ through s.beside (heard_next first s.first p inbox)
  next-early s p cut inbox e h =
      let test : nat_le p (sequel.until s.beside) ≡ true = ap (nat_le p) e ∙ le-leb p cut h in
      ap (λ (b : Bool). if b then through s.beside (heard_next first s.first p inbox)
      else keeping s.first (sequel.next s.first s.beside (p - suc (sequel.until s.beside)) inbox)) test

  pub next-late : (s : Both S X) (p cut : ℕ) (inbox : List (Option (Said A B))) → sequel.until s.beside ≡ cut
      → cut < p →
      followed_next first sequel s p inbox ≡ keeping s.first (sequel.next s.first s.beside (p - suc cut) inbox)
  next-late s p cut inbox e h =
      let test : nat_le p (sequel.until s.beside) ≡ false = ap (nat_le p) e ∙ lt-leb p cut h in
      ap (λ (b : Bool). if b then through s.beside (heard_next first s.first p inbox)
      else keeping s.first (sequel.next s.first s.beside (p - suc (sequel.until s.beside)) inbox)) test
      ∙ ap (λ (n : ℕ). keeping s.first (sequel.next s.first s.beside (p - suc n) inbox)) e

  -- where the first program rests, so does the node up to the cut
  pub rests-early : (s : Both S X) (p until : ℕ) → RestsUntil first s.first p until → (q : ℕ) → p < q → q < until
      → q < sequel.until s.beside →
      followed_next first sequel s q (nothing (first.ports s.first)) ≡ Ok (s, nothing (first.ports s.first))
  rests-early s p until rests q after before early =
      let n : ℕ = first.ports s.first in
      next-early s q (sequel.until s.beside) (nothing n) refl (omega arith)
      ∙ (ap (λ (inbox : List (Option (Said A B))). through s.beside (heard_next first s.first q inbox))
      (sym (said-nothing {A = A} {B = B} n))
      ∙ (ap (through s.beside) (heard-said s.first q (nothing n))
      ∙ (ap (λ (r : Result (S × List (Option A)) Refused). through s.beside (told_next {B = B} r))
      (rests q after before)
      ∙ ap (λ (out : List (Option (Said A B))). Ok (s, out)) (said-nothing {A = A} {B = B} n))))

  -- after a refusal too a node has its state of the first program
  keeping-first : (s : Both S X) (degree : ℕ) (r : Result (X × List (Option (Said A B))) Refused)
      → (after s degree (keeping s.first r)).0.first ≡ s.first
  keeping-first s degree (Ok next) = refl
  keeping-first s degree (Err refused) = refl

  module _ (laws : IsCut first sequel) (net : Net) (ok : IsNetwork net) where
    abbrev pub at : ℕ → ℕ → Both S X × List (Option (Said A B))
    at p v = node_at (followed first sequel) net p v

    abbrev pub cut : ℕ
    cut = laws.cut (sizes_of net)

    abbrev start : ℕ → X
    start v = sequel.begin (own_of net v)

    -- where the nodes are the first program's, so is what they do at a pulse up to the cut
    next-same : (p v : ℕ) → IsVertex net v
        → ((w : ℕ) → IsVertex net w → at p w ≡ with_beside (start w) (told_by (node_at first net p w))) → suc p ≤ cut →
        followed_next first sequel (at p v).0 (suc p) (inbox_from net (at p) v)
        ≡ through (start v) (told_next (first.next (state_at first net p v) (suc p)
        (inbox_from net (node_at first net p) v)))
    next-same p v is_vertex before h =
        let heard : List (Option A) = inbox_from net (node_at first net p) v in
        let came : inbox_from net (at p) v ≡ map said heard =
        map-members (λ w. at_port (at p w).1 (port_to net w v))
        (λ w. said (at_port (node_at first net p w).1 (port_to net w v))) (neighbours net v)
        (λ k below. let w : ℕ = neighbour_of net v k in
        ap (λ (node : Both S X × List (Option (Said A B))). at_port node.1 (port_to net w v))
        (before w (ok.vertices v k is_vertex below))
        ∙ at_port-said {A = A} {B = B} (node_at first net p w).1 (port_to net w v))
        ∙ sym (map-map said (λ w. at_port (node_at first net p w).1 (port_to net w v)) (neighbours net v)) in
        let here : Both S X = record { first = state_at first net p v; beside = start v } in
        ap (λ (s : Both S X). followed_next first sequel s (suc p) (inbox_from net (at p) v))
        (ap (λ (node : Both S X × List (Option (Said A B))). node.0) (before v is_vertex))
        ∙ (ap (followed_next first sequel here (suc p)) came
        ∙ (next-early here (suc p) cut (map said heard) (laws.begins (own_of net v)) h
        ∙ ap (through (start v)) (heard-said (state_at first net p v) (suc p) heard)))

    pub same_run : (p v : ℕ) → IsVertex net v → p ≤ cut
        → at p v ≡ with_beside (start v) (told_by (node_at first net p v))
    same_run zero v is_vertex h = node_at-none (followed first sequel) net v
        ∙ ap (λ (node : S × List (Option A)). with_beside (start v) (told_by {B = B} node))
        (sym (node_at-none first net v))
    same_run (suc p) v is_vertex h =
        let before : (w : ℕ) → IsVertex net w → at p w ≡ with_beside (start w) (told_by (node_at first net p w)) =
        λ w inside. same_run p w inside (omega arith) in
        let s : S = state_at first net p v in
        let inbox : List (Option A) = inbox_from net (node_at first net p) v in
        node_at-more (followed first sequel) net p v
        ∙ (ap (after (at p v).0 (degree_of net v)) (next-same p v is_vertex before h)
        ∙ (ap (λ (t : Both S X). after t (degree_of net v)
        (through (start v) (told_next {B = B} (first.next s (suc p) inbox))))
        (ap (λ (node : Both S X × List (Option (Said A B))). node.0) (before v is_vertex))
        ∙ (after-through B (start v) s (degree_of net v) (first.next s (suc p) inbox)
        ∙ ap (λ (node : S × List (Option A)). with_beside (start v) (told_by {B = B} node))
        (sym (node_at-more first net p v)))))

    pub same_next : (p v : ℕ) → IsVertex net v → suc p ≤ cut
        → followed_next first sequel (at p v).0 (suc p) (inbox_from net (at p) v)
        ≡ through (start v) (told_next (first.next (state_at first net p v) (suc p)
        (inbox_from net (node_at first net p) v)))
    same_next p v is_vertex h = next-same p v is_vertex (λ w inside. same_run p w inside (omega arith)) h

    -- what a node keeps beside the first program is what it had there at first
    module _ {C : Type 0} (kept : X → C) (keeps : (s : S) (x : X) (q : ℕ) (inbox : List (Option (Said A B))) →
        IfOk (sequel.next s x q inbox) (λ next. kept next.0 ≡ kept x)) where
      kept-through : (s : Both S X) (r : Result (S × List (Option (Said A B))) Refused) (degree : ℕ)
          → kept (after s degree (through s.beside r)).0.beside ≡ kept s.beside
      kept-through s (Ok node) degree = refl
      kept-through s (Err refused) degree = refl

      kept-keeping : (s : Both S X) (r : Result (X × List (Option (Said A B))) Refused) (degree : ℕ)
          → IfOk r (λ next. kept next.0 ≡ kept s.beside) →
          kept (after s degree (keeping s.first r)).0.beside ≡ kept s.beside
      kept-keeping s (Ok next) degree h = h
      kept-keeping s (Err refused) degree h = refl

      kept-if : (b : Bool) (s : Both S X) (r : Result (S × List (Option (Said A B))) Refused)
          (t : Result (X × List (Option (Said A B))) Refused) (degree : ℕ) →
          IfOk t (λ next. kept next.0 ≡ kept s.beside)
          → kept (after s degree (if b then through s.beside r else keeping s.first t)).0.beside ≡ kept s.beside
      kept-if true s r t degree h = kept-through s r degree
      kept-if false s r t degree h = kept-keeping s t degree h

      pub kept_beside : (p v : ℕ) → kept (at p v).0.beside ≡ kept (start v)
      kept_beside zero v = ap (λ (node : Both S X × List (Option (Said A B))). kept node.0.beside)
          (node_at-none (followed first sequel) net v)
      kept_beside (suc p) v =
          let s : Both S X = (at p v).0 in
          let inbox : List (Option (Said A B)) = inbox_from net (at p) v in
          let q : ℕ = suc p - suc (sequel.until s.beside) in
          ap (λ (node : Both S X × List (Option (Said A B))). kept node.0.beside)
          (node_at-more (followed first sequel) net p v)
          ∙ (kept-if (nat_le (suc p) (sequel.until s.beside)) s (heard_next first s.first (suc p) inbox)
          (sequel.next s.first s.beside q inbox) (degree_of net v)
          (keeps s.first s.beside q inbox)
          ∙ kept_beside p v)

    knows : (p v : ℕ) → sequel.until (at p v).0.beside ≡ cut
    knows p v = kept_beside sequel.until laws.keeps p v ∙ laws.begins (own_of net v)

    -- after the cut a node's state of the first program is that at the cut
    pub stays : (p v : ℕ) → IsVertex net v → cut ≤ p → (at p v).0.first ≡ state_at first net cut v
    stays zero v is_vertex h =
        let e : zero ≡ cut = omega arith in
        ap (λ (node : Both S X × List (Option (Said A B))). node.0.first) (same_run zero v is_vertex (omega arith))
        ∙ ap (λ (n : ℕ). state_at first net n v) e
    stays (suc p) v is_vertex h = elim (dec_lt p cut) [
      | yes low ↦
          let e : suc p ≡ cut = omega arith in
          ap (λ (node : Both S X × List (Option (Said A B))). node.0.first) (same_run (suc p) v is_vertex (omega arith))
          ∙ ap (λ (n : ℕ). state_at first net n v) e
      | no high ↦
          let before : (at p v).0.first ≡ state_at first net cut v = stays p v is_vertex (omega arith) in
          let s : Both S X = (at p v).0 in
          let inbox : List (Option (Said A B)) = inbox_from net (at p) v in
          ap (λ (node : Both S X × List (Option (Said A B))). node.0.first)
          (node_at-more (followed first sequel) net p v
          ∙ ap (after s (degree_of net v)) (next-late s (suc p) cut inbox (knows p v) (omega arith)))
          ∙ (keeping-first s (degree_of net v) (sequel.next s.first s.beside (suc p - suc cut) inbox)
          ∙ before)
    ]

    -- what the sequel makes of a node at the pulse after p
    abbrev pub sequel_next : ℕ → ℕ → Result (X × List (Option (Said A B))) Refused
    sequel_next p v = sequel.next (state_at first net cut v) (at p v).0.beside (p - cut) (inbox_from net (at p) v)

    -- and it goes on as the sequel says
    pub goes_on : (p v : ℕ) → IsVertex net v → cut ≤ p →
        followed_next first sequel (at p v).0 (suc p) (inbox_from net (at p) v)
        ≡ keeping (state_at first net cut v) (sequel_next p v)
    goes_on p v is_vertex h =
        let before : (at p v).0.first ≡ state_at first net cut v = stays p v is_vertex h in
        let pulse : suc p - suc cut ≡ p - cut = omega arith in
        next-late (at p v).0 (suc p) cut (inbox_from net (at p) v) (knows p v) (omega arith)
        ∙ (ap (λ (s : S). keeping s (sequel.next s (at p v).0.beside (suc p - suc cut)
        (inbox_from net (at p) v))) before
        ∙ ap (λ (n : ℕ). keeping (state_at first net cut v)
        (sequel.next (state_at first net cut v) (at p v).0.beside n (inbox_from net (at p) v))) pulse)

    -- a pulse at which the sequel refuses nothing
    pub at-more : (p v : ℕ) → IsVertex net v → cut ≤ p → (next : X × List (Option (Said A B)))
        → sequel_next p v ≡ Ok next →
        at (suc p) v ≡ beside_of (state_at first net cut v) next
    at-more p v is_vertex h next is = node_at-more (followed first sequel) net p v
        ∙ ap (after (at p v).0 (degree_of net v)) (goes_on p v is_vertex h ∙ ap (keeping (state_at first net cut v)) is)

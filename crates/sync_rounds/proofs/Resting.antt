-- What every vertex sends as one list, and vertices that are passed over.
use Rattle.std.proofs.Common.{◌≡◌, ℕ, suc, ◌+◌, ◌-◌, ◌<◌, List, [], ◌∷◌, length, get_or, set}
use Rattle.std.proofs.Common.{◌++◌, Bool, true, false, inl, inr, refl, ap, sym, ◌∙◌, arith, subst}
use Rattle.std.specs.Prelude.{◌↔◌, Option, Ok, Result, replicate}
use Rattle.std.proofs.lemmas.List.{get_or_append_left, get_or_push, get_or-replicate, length-replicate, length-set}
use Rattle.std.proofs.lemmas.List.FromFn.{length-map-range_with_len, get_or-map-range_with_len}
use Rattle.interference.specs.Net.{Net, IsVertex, count_of, degree_of}
use Rattle.node_api.specs.Boxes.{Mail, nothing, unread, HasFrom}
use Rattle.node_api.specs.Program.{Program, RestsUntil}
use Rattle.node_api.specs.Run.{node_at, state_at, outbox_at, inbox_at, after}
use Rattle.node_api.specs.Laws.{KeepsPorts}
use Rattle.node_api.proofs.Runs.{node_at-ports, node_at-more}
use Rattle.node_api.proofs.Reading.{nothing-came}
use Rattle.sync_rounds.specs.Lists.{Lists}
use Rattle.sync_rounds.specs.Rests.{AreResting, HasDegrees, HasOutboxes, sent_by}
use Rattle.sync_rounds.proofs.Received.{below_or_last, set_cases}

module _ {S M E : Type 0} (program : Program S M E) (net : Net) where
  -- the entry of a vertex
  pub sent_by-at : (p v : ℕ) → IsVertex net v → get_or (sent_by program net p) (v - 1) [] ≡ outbox_at program net p v
  sent_by-at p v is_vertex = get_or-map-range_with_len (outbox_at program net p) 1 (count_of net) (v - 1) v [] (omega arith) (omega arith)

  pub sent_by-lists : (p : ℕ) → Lists (count_of net) (outbox_at program net p) (sent_by program net p)
  sent_by-lists p = record {
    count = length-map-range_with_len (outbox_at program net p) 1 (count_of net);
    entry = λ k d l. get_or-map-range_with_len (outbox_at program net p) 1 (count_of net) k (k + 1) d l (omega arith);
  }

  -- a list of zeros lets no node rest
  pub none-rests : (p : ℕ) (untils : List ℕ) → untils ≡ replicate (count_of net) 0 → AreResting program net p untils
  none-rests p untils zeros = record {
    count = ap length zeros ∙ length-replicate (count_of net) 0;
    rest = λ k d low q after before.
        absurd (omega (arith, before, ap (λ (xs : List ℕ). get_or xs k d) zeros, get_or-replicate (count_of net) k 0 d low));
  }

  module _ (laws : KeepsPorts program) where
    -- nothing comes, and the node rests: the next pulse leaves its state, and nothing is sent
    pub rested : (p v until : ℕ) → RestsUntil program (state_at program net p v) p until → suc p < until →
        inbox_at program net (suc p) v ≡ nothing (degree_of net v) → node_at program net (suc p) v ≡ (state_at program net p v, nothing (degree_of net v))
    rested p v until rests early none =
        let s = state_at program net p v in
        let ports : program.ports s ≡ degree_of net v = (node_at-ports program net laws p v).0 in
        let idle : program.next s (suc p) (nothing (degree_of net v)) ≡ Ok (s, nothing (degree_of net v)) =
        subst (λ (n : ℕ). program.next s (suc p) (nothing n) ≡ Ok (s, nothing n)) ports (rests (suc p) (omega arith) early) in
        node_at-more program net p v
        ∙ (ap (λ (slots : List (Option M)). after s (degree_of net v) (program.next s (suc p) slots)) none
        ∙ ap (λ (r : Result (S × List (Option M)) E). after s (degree_of net v) r) idle)

    -- and it goes on resting
    pub rests_on : (p v until : ℕ) → RestsUntil program (state_at program net p v) p until → state_at program net (suc p) v ≡ state_at program net p v →
        RestsUntil program (state_at program net (suc p) v) (suc p) until
    rests_on p v until rests same =
        subst (λ (s : S). RestsUntil program s (suc p) until) (sym same) (λ q above below. rests q (omega arith) below)

    -- what a vertex sends has a slot for each port
    pub sent-length : (p v : ℕ) → length (outbox_at program net p v) ≡ degree_of net v
    sent-length p v = (node_at-ports program net laws p v).1

-- whether an outbox isn't empty, said of what is the same
pub is_loud : {M : Type 0} (loud : Bool) (n : ℕ) (out same : List (Option M)) → out ≡ same → length out ≡ n
    → (loud ≡ false) ↔ (out ≡ nothing (length out)) → (loud ≡ false) ↔ (same ≡ nothing n)
is_loud loud n out same is size h =
    subst (λ (slots : List (Option _)). (loud ≡ false) ↔ (slots ≡ nothing n)) is
    (subst (λ (k : ℕ). (loud ≡ false) ↔ (out ≡ nothing k)) size h)

-- an outbox that is empty again leaves the others as they are
pub outboxes_kept : {M : Type 0} (net : Net) (outs : List (List (Option M))) (v : ℕ) (out : List (Option M)) → IsVertex net v → HasOutboxes net outs →
    out ≡ nothing (degree_of net v) → HasOutboxes net (set outs (degree_of net v) out)
outboxes_kept net outs v out is_vertex has empty = record {
  within = λ w is_w. omega (arith, has.within w is_w, length-set outs (degree_of net v) out);
  empty = λ w d is_w. set_cases (λ (x : List (Option _)). x ≡ nothing (degree_of net w)) outs (degree_of net v) (degree_of net w) out d (has.within v is_vertex)
      (λ same. empty ∙ ap (λ (n : ℕ). nothing n) (sym same)) (λ other. has.empty w d is_w);
}

-- an inbox of which nothing is to be read is empty
pub nothing_came : {M : Type 0} (inbox : Mail M) (slots : List (Option M)) (n : ℕ) → inbox ≡ unread slots → length slots ≡ n →
    (HasFrom inbox.slots inbox.cursor → ⊥) → slots ≡ nothing n
nothing_came inbox slots n is size none =
    nothing-came slots (subst (λ (mail : Mail _). HasFrom mail.slots mail.cursor → ⊥) is none) ∙ ap (λ (k : ℕ). nothing k) size

-- the outbox of the vertex's degree
pub own_out : {M : Type 0} (net : Net) (outs : List (List (Option M))) (v degree : ℕ) (d : List (Option M)) → IsVertex net v → HasOutboxes net outs →
    degree ≡ degree_of net v → get_or outs degree d ≡ nothing (degree_of net v)
own_out net outs v degree d is_vertex has is = ap (λ (k : ℕ). get_or outs k d) is ∙ has.empty v d is_vertex

-- one outbox more, of the next degree
pub outboxes-push : {M : Type 0} (n : ℕ) (occurs : List Bool) (outs : List (List (Option M))) (out : List (Option M)) → length outs ≡ n →
    ((k : ℕ) (d : List (Option M)) → k < n → get_or occurs k false ≡ true → get_or outs k d ≡ nothing k) →
    (get_or occurs n false ≡ true → out ≡ nothing n) → (k : ℕ) (d : List (Option M)) → k < n + 1 → get_or occurs k false ≡ true →
    get_or (outs ++ out ∷ []) k d ≡ nothing k
outboxes-push {M} n occurs outs out size before new k d low is =
    elim (below_or_last k n low) [
      | inl below ↦ get_or_append_left outs (out ∷ []) d k (omega (arith, size)) ∙ before k d below is
      | inr same ↦
          subst (λ (j : ℕ). get_or (outs ++ out ∷ []) j d ≡ nothing {M = M} j) (sym same)
          (get_or_push outs out d n size ∙ new (subst (λ (j : ℕ). get_or occurs j false ≡ true) same is))
    ]

-- the degree of one vertex more occurs
pub degrees-more : (net : Net) (n degree : ℕ) (occurs : List Bool) → degree < length occurs → degree ≡ degree_of net (n + 1) → HasDegrees net n occurs →
    HasDegrees net (n + 1) (set occurs degree true)
degrees-more net n degree occurs below is has v is_vertex upto =
    set_cases (λ (b : Bool). b ≡ true) occurs degree (degree_of net v) true false below (λ same. refl) (λ other.
    elim (below_or_last v (n + 1) (omega arith)) [
      | inl earlier ↦ has v is_vertex (omega arith)
      | inr last ↦ absurd (other (ap (degree_of net) last ∙ sym is))
    ])

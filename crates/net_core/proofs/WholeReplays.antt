-- Stamped rows, one after the other, and whole replays.
use Rattle.std.proofs.Common.{◌≡◌, ℕ, suc, ◌<◌, ◌∙◌, List, ◌∷◌, ◌++◌, take, drop, length, get_or, Some, Ok, ap, refl, sym, subst, ⊎_elim}
use Rattle.std.proofs.lemmas.List.{length-map, map-append}
use Rattle.interference.specs.Net.{IsNetwork, Net}
use Rattle.node_api.specs.Program.{Program}
use Rattle.event_rule.specs.State.{State}
use Rattle.event_rule.specs.Step.{step}
use Rattle.event_rule.proofs.Parts.{take-split}
use Rattle.net_core.specs.declared.refused.WholeRefused.{WholeRefused}
use Rattle.net_core.specs.declared.refused.WholeRefused.TheVariants.{Replay, WrongStamp, NotWhole}
use Rattle.net_core.specs.declared.refused.EntryRefused.{EntryRefused}
use Rattle.net_core.specs.declared.refused.ReplayRefused.{ReplayRefused}
use Rattle.net_core.specs.Replays.{Stops, WhyNot, at_entry}
use Rattle.entries.specs.declared.rows.Row.{Row}
use Rattle.event_rule.specs.Rows.{event_of, row_of}
use Rattle.event_rule.specs.Whole.{IsStampedReplay, IsWhole, IsWholeReplay}
use Rattle.net_core.specs.Whole.{ReachesRow, StopsAtEntry, StopsAtStamp, WholeReplaysAreExact, WhyNotWhole}
use Rattle.net_core.proofs.Decided.{decided, refused-not, split-twice}
use Rattle.entries.specs.Rows.{without_stamp}
use Rattle.entries.specs.declared.rows.StampedRow.{StampedRow}
use Rattle.stamps.specs.Merged.{AreOrdered, IsInPlace, rows_in}
use Rattle.stamps.proofs.Growing.{all_before}

module _ {S M E : Type 0} (program : Program S M E) (net : Net) where
  -- the row at an index, where the rows before it lead
  module _ (rows : List (StampedRow M)) (i : ℕ) (row : StampedRow M) (state : State S M) (lt : i < length rows) (here : row ≡ get_or rows i row)
      (is : IsStampedReplay program net (take i rows) state) where
    abbrev reaches : ReachesRow program net rows
    reaches = record {
      before = take i rows;
      row = row;
      after = drop (suc i) rows;
      splits = (take-split rows i row lt here).1;
      reached = state;
      is_replay = is;
    }

    pub stops-entry : (reason : EntryRefused) (refused : ReplayRefused) → WhyNot program net state (without_stamp row) reason → refused ≡ at_entry i reason
        → StopsAtEntry program net rows refused
    stops-entry reason refused why index = record {
      at = reaches;
      reason = reason;
      why = why;
      index = index ∙ ap (λ k. at_entry k reason) (sym (take-split rows i row lt here).2);
    }

    pub stops-stamp : (next : State S M) → step program net state (event_of net (without_stamp row)) ≡ Ok next
        → row_of program net state (event_of net (without_stamp row)) ≡ Some (without_stamp row) → (IsInPlace (take i rows) row → ⊥)
        → StopsAtStamp program net rows i
    stops-stamp next leads writes misplaced = record {
      at = reaches;
      next = next;
      leads = leads;
      writes = writes;
      misplaced = misplaced;
      index = sym (take-split rows i row lt here).2;
    }

  module _ (ok : IsNetwork net) where
    -- where rows stop at an entry, the bare ones do
    stops-bare : (rows : List (StampedRow M)) (refused : ReplayRefused) → StopsAtEntry program net rows refused → Stops program net (rows_in rows) refused
    stops-bare rows refused stops =
        let at = stops.at in
        let f : StampedRow M → Row M = λ r. without_stamp r in
        record {
          before = rows_in at.before;
          row = f at.row;
          after = rows_in at.after;
          splits = ap (λ l. rows_in l) at.splits ∙ map-append f at.before (at.row ∷ at.after);
          reached = at.reached;
          is_replay = at.is_replay.replay;
          reason = stops.reason;
          why = stops.why;
          index = stops.index ∙ ap (λ k. at_entry k stops.reason) (sym (length-map at.before f));
        }

    state-is : (rows : List (StampedRow M)) (last other : State S M) → IsStampedReplay program net rows last → IsStampedReplay program net rows other
        → last ≡ other
    state-is rows last other a b = (decided program net ok).one_state (rows_in rows) last other a.replay b.replay

    -- rows that stop aren't a stamped replay
    not-at-entry : (rows : List (StampedRow M)) (last : State S M) (refused : ReplayRefused) → IsStampedReplay program net rows last
        → StopsAtEntry program net rows refused → ⊥
    not-at-entry rows last refused is stops = (decided program net ok).not_both (rows_in rows) last refused is.replay (stops-bare rows refused stops)

    not-at-stamp : (rows : List (StampedRow M)) (last : State S M) (i : ℕ) → IsStampedReplay program net rows last → StopsAtStamp program net rows i → ⊥
    not-at-stamp rows last i is stops =
        let at = stops.at in
        stops.misplaced (
          all_before at.before at.row at.after (subst AreOrdered at.splits is.ordered),
          is.stamped at.before at.row at.after at.splits,
        )

    not-whole : (rows : List (StampedRow M)) (last : State S M) (refused : WholeRefused) → IsWholeReplay program net rows last
        → WhyNotWhole program net rows refused → ⊥
    not-whole rows last (Replay refused) is stops = not-at-entry rows last refused is.replay stops
    not-whole rows last (WrongStamp i) is stops = not-at-stamp rows last i is.replay stops
    not-whole rows last NotWhole is ends =
        ends.unfinished (subst (λ s. IsWhole program net s) (state-is rows last ends.last is.replay ends.is_replay) is.whole)

    -- the row at which rows stop, with others behind it
    abbrev behind : (rows : List (StampedRow M)) (at : ReachesRow program net rows) (ys m : List (StampedRow M))
        → ys ≡ at.before ++ (at.row ∷ m) → ReachesRow program net ys
    behind rows at ys m over = record {
      before = at.before;
      row = at.row;
      after = m;
      splits = over;
      reached = at.reached;
      is_replay = at.is_replay;
    }

    -- rows that reach over such a row aren't a stamped replay
    entry-not-over : (rows : List (StampedRow M)) (refused : ReplayRefused) (a : StopsAtEntry program net rows refused) (ys m : List (StampedRow M))
        (last : State S M) → IsStampedReplay program net ys last → ys ≡ a.at.before ++ (a.at.row ∷ m) → ⊥
    entry-not-over rows refused a ys m last is over = not-at-entry ys last refused is record {
      at = behind rows a.at ys m over;
      reason = a.reason;
      why = a.why;
      index = a.index;
    }

    stamp-not-over : (rows : List (StampedRow M)) (i : ℕ) (a : StopsAtStamp program net rows i) (ys m : List (StampedRow M)) (last : State S M)
        → IsStampedReplay program net ys last → ys ≡ a.at.before ++ (a.at.row ∷ m) → ⊥
    stamp-not-over rows i a ys m last is over = not-at-stamp ys last i is record {
      at = behind rows a.at ys m over;
      next = a.next;
      leads = a.leads;
      writes = a.writes;
      misplaced = a.misplaced;
      index = a.index;
    }

    -- rows don't stop at an entry and at a stamp
    not-at-both : (rows : List (StampedRow M)) (refused : ReplayRefused) (i : ℕ) → StopsAtEntry program net rows refused → StopsAtStamp program net rows i → ⊥
    not-at-both rows refused i a b = ⊎_elim
        (λ same.
        let f : StampedRow M → Row M = λ r. without_stamp r in
        let reached : a.at.reached ≡ b.at.reached =
        state-is b.at.before a.at.reached b.at.reached (subst (λ l. IsStampedReplay program net l a.at.reached) same.0 a.at.is_replay) b.at.is_replay in
        let why = subst (λ r. WhyNot program net b.at.reached (f r) a.reason) same.1 (subst (λ s. WhyNot program net s (f a.at.row) a.reason) reached a.why) in
        refused-not program net ok b.at.reached b.next (f b.at.row) a.reason b.leads b.writes why)
        (λ apart. ⊎_elim (λ m. entry-not-over rows refused a b.at.before m.0 b.at.reached b.at.is_replay m.1)
        (λ m. stamp-not-over rows i b a.at.before m.0 a.at.reached a.at.is_replay m.1) apart)
        (split-twice a.at.before b.at.before a.at.after b.at.after a.at.row b.at.row (sym a.at.splits ∙ b.at.splits))

    stamp-is : (rows : List (StampedRow M)) (i j : ℕ) → StopsAtStamp program net rows i → StopsAtStamp program net rows j → i ≡ j
    stamp-is rows i j a b = ⊎_elim
        (λ same. a.index ∙ ap (λ l. length l) same.0 ∙ sym b.index)
        (λ apart. absurd (⊎_elim (λ m. stamp-not-over rows i a b.at.before m.0 b.at.reached b.at.is_replay m.1)
        (λ m. stamp-not-over rows j b a.at.before m.0 a.at.reached a.at.is_replay m.1) apart))
        (split-twice a.at.before b.at.before a.at.after b.at.after a.at.row b.at.row (sym a.at.splits ∙ b.at.splits))

    reason-is : (rows : List (StampedRow M)) (refused other : WholeRefused) → WhyNotWhole program net rows refused → WhyNotWhole program net rows other
        → refused ≡ other
    reason-is rows (Replay r) (Replay s) a b =
        ap (λ x. Replay x) ((decided program net ok).one_reason (rows_in rows) r s (stops-bare rows r a) (stops-bare rows s b))
    reason-is rows (Replay r) (WrongStamp j) a b = absurd (not-at-both rows r j a b)
    reason-is rows (Replay r) NotWhole a b = absurd (not-at-entry rows b.last r b.is_replay a)
    reason-is rows (WrongStamp i) (Replay s) a b = absurd (not-at-both rows s i b a)
    reason-is rows (WrongStamp i) (WrongStamp j) a b = ap (λ k. WrongStamp k) (stamp-is rows i j a b)
    reason-is rows (WrongStamp i) NotWhole a b = absurd (not-at-stamp rows b.last i b.is_replay a)
    reason-is rows NotWhole (Replay s) a b = absurd (not-at-entry rows a.last s a.is_replay b)
    reason-is rows NotWhole (WrongStamp j) a b = absurd (not-at-stamp rows a.last j a.is_replay b)
    reason-is rows NotWhole NotWhole a b = refl

    pub exact : WholeReplaysAreExact program net
    exact = record {
      one_state = λ rows last other a b. state-is rows last other a.replay b.replay;
      not_both = λ rows last refused is stops. not-whole rows last refused is stops;
      one_reason = reason-is;
    }

-- What a reader knows after one more bar line, and what is told of one.
use Rattle.std.proofs.Common.{◌≡◌, ◌<◌, ◌≤◌, ◌++◌, ℕ, Bool, true, false, cond, Some, None, List, [], ◌∷◌, not, nat_lt, refl, sym, ◌∙◌, ap, subst}
use Rattle.std.specs.List.{filter}
use Rattle.std.specs.Set.{is_member, distinct_count}
use Rattle.dimacs_col.specs.Bag.{SameMembers}
use Rattle.dimacs_col.specs.BarSets.{IsCounted}
use Rattle.dimacs_col.specs.Lines.{Line, field_at, is_channel, number_of}
use Rattle.dimacs_col.specs.Kinds.{kind_of_word}
use Rattle.dimacs_col.specs.Reading.{verdict, nodes_of, edges_of, first_of, id_in, ids_of, bars_of, bar_count, number_after}
use Rattle.graph_limits.specs.Pairs.{same_pair, is_bar_at, IsBarOf}
use Rattle.dimacs_col.specs.State.{Knows, kept_number}
use Rattle.graph_limits.specs.declared.limits.TheConstants.{MAX_CHANNEL, MAX_BARS}
use Rattle.dimacs_col.specs.declared.bars.BarSet.{BarSet}
use Rattle.dimacs_col.specs.declared.reader.Reader.{Reader}
use Rattle.dimacs_col.specs.declared.fault.ColFault.TheVariants.{VertexRange, ChannelRange, TooManyBars}
use Rattle.dimacs_col.specs.declared.kind.Kind.TheVariants.{Bar}
use Rattle.dimacs_col.proofs.Lists.{AllGood-push, nodes_of-same, edges_of-same, edge_count-same, ids_of-same, bars_of-push}
use Rattle.dimacs_col.proofs.Edges.{small-nodes}
use Rattle.dimacs_col.proofs.Members.{member-push, members-push, count-same}
use Rattle.graph_limits.proofs.Pairs.{same_pair-exact}
use Rattle.dimacs_col.proofs.BarSets.{same-filtered}
use Rattle.dimacs_col.proofs.Verdicts.{verdict-bar, outside-one, inside-one, channel-outside, channel-inside, kept-channel, kept-from, kept-inside}

-- a test that the set gives the other way round
pub not-back : (b c : Bool) → b ≡ not c → (b ≡ true → c ≡ false) × (b ≡ false → c ≡ true)
not-back b true e = ((λ t. let none : false ≡ true = sym e ∙ t in absurd cc), (λ f. refl))
not-back b false e = ((λ t. refl), (λ f. let none : true ≡ false = sym e ∙ f in absurd cc))

-- ---- a `b` line whose numbers the reader keeps as v and w
pub record IsBarLine (before : List Line) (word : List ℕ) (fields : Line) (r : Reader) (nodes v w : ℕ) : Type 0 where
  pub knows : Knows before r
  pub kind : kind_of_word word ≡ Bar
  pub nodes_is : r.nodes ≡ Some nodes
  pub first : kept_number (field_at fields 0) ≡ Some v
  pub second : kept_number (field_at fields 1) ≡ Some w

module _ (before : List Line) (word : List ℕ) (fields : Line) (r : Reader) (nodes v w : ℕ) (e : IsBarLine before word fields r nodes v w) where
  abbrev after : List Line
  after = before ++ (word ∷ fields) ∷ []

  pub outside-told : (0 < v → v ≤ nodes → ⊥) → verdict before (word ∷ fields) ≡ Some (VertexRange (number_after before))
  outside-told bad =
      let small = small-nodes r.nodes nodes e.nodes_is e.knows.nodes_fit in
      let a = kept-from (field_at fields 0) v e.first in
      let b = kept-from (field_at fields 1) w e.second in
      verdict-bar before word fields nodes a.number b.number true (is_channel b.number) (nat_lt MAX_BARS (bar_count after a.number))
      e.kind (sym e.knows.nodes_are ∙ e.nodes_is) a.is b.is (outside-one nodes a.number v small a.kept_is bad) refl refl

  -- the vertex is one of the network
  module _ (low : 0 < v) (high : v ≤ nodes) where
    vertex : number_of (field_at fields 0) ≡ Some v
    vertex =
        let small = small-nodes r.nodes nodes e.nodes_is e.knows.nodes_fit in
        let a = kept-from (field_at fields 0) v e.first in
        a.is ∙ ap Some (kept-inside nodes a.number v small a.kept_is high)

    pub channel-told : (0 < w → w ≤ MAX_CHANNEL → ⊥) → verdict before (word ∷ fields) ≡ Some (ChannelRange (number_after before))
    channel-told bad =
        let b = kept-from (field_at fields 1) w e.second in
        verdict-bar before word fields nodes v b.number false false (nat_lt MAX_BARS (bar_count after v)) e.kind (sym e.knows.nodes_are ∙ e.nodes_is)
        vertex b.is (inside-one nodes v low high) (channel-outside b.number w b.kept_is bad) refl

    -- and the channel is in range
    module _ (least : 0 < w) (most : w ≤ MAX_CHANNEL) where
      channel : number_of (field_at fields 1) ≡ Some w
      channel = let b = kept-from (field_at fields 1) w e.second in b.is ∙ ap Some (kept-channel b.number w b.kept_is most)

      one-bar : bars_of ((word ∷ fields) ∷ []) ≡ (v, w) ∷ []
      unfolding bars_of
      one-bar = simp (e.kind, vertex, channel)

      more : bars_of after ≡ bars_of before ++ (v, w) ∷ []
      more = bars_of-push before (word ∷ fields) ∙ ap (λ xs. bars_of before ++ xs) one-bar

      no-nodes : nodes_of ((word ∷ fields) ∷ []) ≡ None
      unfolding nodes_of
      no-nodes = rw e.kind refl

      no-edges : edges_of ((word ∷ fields) ∷ []) ≡ []
      unfolding edges_of
      no-edges = rw e.kind refl

      no-ids : ids_of ((word ∷ fields) ∷ []) ≡ []
      unfolding ids_of
      no-ids = rw e.kind refl

      -- how many bars the vertex then has, as the set counts them
      count-is : bar_count after v ≡ distinct_count same_pair (filter (is_bar_at v) (r.bars.bars.keys ++ (v, w) ∷ []))
      unfolding bar_count
      count-is =
          ap (λ bars. distinct_count same_pair (filter (is_bar_at v) bars)) more
          ∙ sym (count-same _ _ (same-filtered _ _ v (members-push r.bars.bars.keys (bars_of before) (v, w) e.knows.bars_are)))

      told-by : (large : Bool) → nat_lt MAX_BARS (distinct_count same_pair (filter (is_bar_at v) (r.bars.bars.keys ++ (v, w) ∷ []))) ≡ large →
          verdict before (word ∷ fields) ≡ first_of ((large, TooManyBars (number_after before)) ∷ [])
      told-by large f =
          verdict-bar before word fields nodes v w false true large e.kind (sym e.knows.nodes_are ∙ e.nodes_is) vertex channel
          (inside-one nodes v low high) (channel-inside w least most) (ap (nat_lt MAX_BARS) count-is ∙ f)

      pub many-told : nat_lt MAX_BARS (distinct_count same_pair (filter (is_bar_at v) (r.bars.bars.keys ++ (v, w) ∷ []))) ≡ true →
          verdict before (word ∷ fields) ≡ Some (TooManyBars (number_after before))
      many-told f = told-by true f

      pub knows-barred : (line : ℕ) (bars : BarSet) →
          nat_lt MAX_BARS (distinct_count same_pair (filter (is_bar_at v) (r.bars.bars.keys ++ (v, w) ∷ []))) ≡ false →
          SameMembers bars.bars.keys (r.bars.bars.keys ++ (v, w) ∷ []) → IsCounted bars →
          Knows after (record { line = line; nodes = r.nodes; ids = r.ids; edges = r.edges; bars = bars })
      knows-barred line bars f members counted = record {
        good = AllGood-push before (word ∷ fields) e.knows.good (told-by false f);
        nodes_are = e.knows.nodes_are ∙ sym (nodes_of-same before (word ∷ fields) no-nodes);
        nodes_fit = e.knows.nodes_fit;
        ids_are = λ q. e.knows.ids_are q ∙ ap (λ xs. id_in xs q) (sym (ids_of-same before (word ∷ fields) no-ids));
        ids_fit = λ q id h. e.knows.ids_fit q id (rw (ids_of-same before (word ∷ fields) no-ids) at h);
        edges_are = λ pair. e.knows.edges_are pair ∙ ap (λ xs. is_member same_pair xs pair) (sym (edges_of-same before (word ∷ fields) no-edges));
        edges_few = rw (edge_count-same before (word ∷ fields) no-edges) e.knows.edges_few;
        edges_fit = λ pair h. e.knows.edges_fit pair (rw (edges_of-same before (word ∷ fields) no-edges) at h);
        bars_are = λ bar. members bar ∙ members-push r.bars.bars.keys (bars_of before) (v, w) e.knows.bars_are bar
            ∙ ap (λ xs. is_member same_pair xs bar) (sym more);
        bars_fit = λ bar h. fits-by bar (sym (member-push (bars_of before) (v, w) bar) ∙ ap (λ xs. is_member same_pair xs bar) (sym more) ∙ h);
        bars_counted = counted;
      }
        where
          fits-by : (bar : ℕ × ℕ) → cond (same_pair (v, w) bar) true (is_member same_pair (bars_of before) bar) ≡ true → IsBarOf r.nodes bar
          fits-by bar h = by (same_pair (v, w) bar) refl h
            where
              by : (b : Bool) → same_pair (v, w) bar ≡ b → cond b true (is_member same_pair (bars_of before) bar) ≡ true → IsBarOf r.nodes bar
              by true same h = subst (IsBarOf r.nodes) (same_pair-exact (v, w) bar same)
                  (subst (λ o. IsBarOf o (v, w)) (sym e.nodes_is) ((low, high), least, most))
              by false other h = e.knows.bars_fit bar h

-- Each step keeps the rule of a link.
use Rattle.std.proofs.Common.{◌≡◌, ◌≢◌, ◌<◌, ℕ, zero, suc, Bool, true, false, true≢false, List, [], ◌∷◌, ◌++◌, ◌||◌, length, set, sym, refl, ap, ◌∙◌, subst}
use Rattle.std.proofs.Common.{⊎_elim, append_assoc, arith, Option, None}
use Rattle.std.specs.Prelude.{Contains, IsTrue, ◌↔◌}
use Rattle.std.proofs.lemmas.List.{map-append}
use Rattle.std.proofs.lemmas.List.Elements.{Contains-append_cases, Contains-append_right}
use Rattle.std.proofs.Math.Bool.{or_assoc, or-false, false-or}
use mathlib.Core.Option as option
use lib.ListN.{get_elem?}
use Rattle.crossbeam_queue.specs.Fifo.{Pushes, Pops, Forks, Merges, Learns}
use Rattle.crossbeam_queue.proofs.Lists.{at_set, at_snoc}
use Rattle.wires.specs.declared.stamped.Stamped.{Stamped}
use Rattle.wires.specs.declared.wire.Wire.{Wire}
use Rattle.wires.specs.declared.wire.Wire.TheVariants.{Payload, Ack, Safe, Close}
use Rattle.link_rule.specs.declared.name.LinkName.{LinkName}
use Rattle.link_queue.specs.declared.view.EndView.{EndView}
use Rattle.node_api.specs.Program.{Program}
use Rattle.wires.proofs.Wires.{legal-front}
use Rattle.link_rule.proofs.Orders.{contains_nil, contains_one}
use Rattle.link_rule.specs.Legal.{IsLegalOn, LegalFor}
use Rattle.wires.specs.StampedWires.{StampsRise, last_stamp, wires_of}
use Rattle.wires.proofs.StampedWires.{rise_front, rise_more}
use Rattle.link_queue.specs.Rule.{end_view, has_close, is_close, AreLastOf, IsAllOf, Knows, Linked, MayFollow, Taking}

module _ {T : Type 0} where
  at_end : (l : List (EndView T)) (a b : EndView T) (j : ℕ) → get_elem? l j ≢ option.some b → get_elem? (l ++ a ∷ []) j ≡ option.some b → j ≡ length l
  at_end [] a b zero n e = refl
  at_end [] a b (suc j) n e = absurd (option.some-ne-none b (sym e))
  at_end (x ∷ xs) a b zero n e = absurd (n e)
  at_end (x ∷ xs) a b (suc j) n e = ap suc (at_end xs a b j n e)

  abbrev All : (ℕ → EndView T → Type 0) → List (EndView T) → Type 0
  All F views = (port : ℕ) (v : EndView T) → get_elem? views port ≡ option.some v → F port v

  all_set : (F : ℕ → EndView T → Type 0) (views : List (EndView T)) (port : ℕ) (w : EndView T) → F port w →
      ((j : ℕ) (u : EndView T) → j ≢ port → get_elem? views j ≡ option.some u → F j u) → All F (set views port w)
  all_set F views port w mine others j u e = ⊎_elim (λ (x : (j ≡ port) × (w ≡ u)). subst (λ (y : ℕ × EndView T). F y.0 y.1) (λ i. (sym x.0 i, x.1 i)) mine)
      (λ (x : (j ≢ port) × (get_elem? views j ≡ option.some u)). others j u x.0 x.1) (at_set views port j w u e)

module _ {T : Type 0} (legal : LinkName → List (Wire T) → Type 0) where
  -- a new link has no name
  pub begins : Linked legal [] (end_view {T = T} None true true [] [] ∷ [])
  begins = record {
    name = None;
    putter = 0;
    taker = 0;
    put = [];
    taken = [];
    in_order = refl;
    is_legal = λ n e. absurd (cc e);
    rises = tt;
    known = all_set (Knows None 0 0 [] []) (end_view None true true [] [] ∷ []) 0 (end_view None true true [] [])
        ((λ _. (refl, refl, refl)), λ _. (refl, refl, refl))
        (λ j u other e. absurd (other (at_end [] _ u j (λ x. option.some-ne-none u (sym x)) e)));
  }

  pub puts : (n port : ℕ) (v : EndView T) (x : Stamped T) → v.puts ≡ true → LegalFor legal v.name (wires_of (v.put ++ x ∷ []))
      → last_stamp v.put < x.stamp → Pushes (Linked legal) n port v x (λ w. w ≡ end_view v.name v.puts v.takes (v.put ++ x ∷ []) v.taken)
  puts n port v x may fits above items views _ h at =
      let w : EndView T = end_view v.name v.puts v.takes (v.put ++ x ∷ []) v.taken in
      let mine = h.known port v at in
      let p = mine.0 may in
      let put = h.put ++ x ∷ [] in (
        w,
        record {
          name = h.name;
          putter = h.putter;
          taker = h.taker;
          put = put;
          taken = h.taken;
          in_order = ap (λ l. l ++ x ∷ []) h.in_order ∙ append_assoc h.taken items (x ∷ []);
          is_legal = λ m e. subst (λ (l : List (Stamped T)). legal m (wires_of (l ++ x ∷ []))) p.2 (fits m (p.1 ∙ e));
          rises = rise_more 0 h.put x h.rises (subst (λ (l : List (Stamped T)). last_stamp l < x.stamp) p.2 above);
          known = all_set (Knows h.name h.putter h.taker put h.taken) views port w ((λ _. (p.0, p.1, ap (λ l. l ++ x ∷ []) p.2)), mine.1)
              (λ j u other e. ((λ q. absurd (other (((h.known j u e).0 q).0 ∙ sym p.0))), (h.known j u e).1));
        },
        refl,
      )

  pub takes : (port : ℕ) (v : EndView T) → v.takes ≡ true → ((n : LinkName) (xs ys : List (Stamped T)) → legal n (wires_of (xs ++ ys)) → legal n (wires_of xs))
      → Pops (Linked legal) port v (Taking legal v)
  takes port v may begin x items views h at =
      let w : EndView T = end_view v.name v.puts v.takes v.put (v.taken ++ x ∷ []) in
      let mine = h.known port v at in
      let p = mine.1 may in
      let taken = h.taken ++ x ∷ [] in
      let whole : h.put ≡ taken ++ items = h.in_order ∙ sym (append_assoc h.taken (x ∷ []) items) in (
        w,
        record {
          name = h.name;
          putter = h.putter;
          taker = h.taker;
          put = h.put;
          taken = taken;
          in_order = whole;
          is_legal = h.is_legal;
          rises = h.rises;
          known = all_set (Knows h.name h.putter h.taker h.put taken) views port w (mine.0, λ _. (p.0, p.1, ap (λ l. l ++ x ∷ []) p.2))
              (λ j u other e. ((h.known j u e).0, λ q. absurd (other (((h.known j u e).1 q).0 ∙ sym p.0))));
        },
        (
          refl,
          λ n e. begin n (v.taken ++ x ∷ []) items (subst (λ (l : List (Stamped T)). legal n (wires_of l)) (whole ∙
              ap (λ l. (l ++ x ∷ []) ++ items) (sym p.2)) (h.is_legal n (sym p.1 ∙ e))),
          rise_front 0 (v.taken ++ x ∷ []) items (subst (λ (l : List (Stamped T)). StampsRise l) (whole ∙ ap (λ l. (l ++ x ∷ []) ++ items) (sym p.2))
              h.rises),
        ),
      )

  -- the one view of a link is named, by any name under which all that was put is legal
  pub names : (port : ℕ) (v : EndView T) (name : Option LinkName) → v.puts ≡ true → v.takes ≡ true → LegalFor legal name (wires_of v.put)
      → Forks (Linked legal) port v (end_view name v.puts v.takes v.put v.taken) (end_view None false false [] [])
  names port v name a b fits items views h at =
      let l : EndView T = end_view name v.puts v.takes v.put v.taken in
      let r : EndView T = end_view None false false [] [] in
      let mine = h.known port v at in
      let p = mine.0 a in
      let t = mine.1 b in
      let vs : List (EndView T) = set views port l in
      let Now : ℕ → EndView T → Type 0 = λ j u. Knows name h.putter h.taker h.put h.taken j u in
      let now : All Now vs = all_set Now views port l ((λ _. (p.0, refl, p.2)), λ _. (t.0, refl, t.2))
      (λ j u other e. ((λ q. absurd (other (((h.known j u e).0 q).0 ∙ sym p.0))), λ q. absurd (other (((h.known j u e).1 q).0 ∙ sym t.0)))) in
      record {
        name = name;
        putter = h.putter;
        taker = h.taker;
        put = h.put;
        taken = h.taken;
        in_order = h.in_order;
        is_legal = λ m e. subst (λ (xs : List (Stamped T)). legal m (wires_of xs)) p.2 (fits m e);
        rises = h.rises;
        known = λ j u e. ⊎_elim (λ x. now j u x)
            (λ (is : r ≡ u). (
              (λ q. absurd (true≢false (sym (ap (λ (y : EndView T). y.puts) is ∙ q)))),
              λ q. absurd (true≢false (sym (ap (λ (y : EndView T). y.takes) is ∙ q))),
            )) (at_snoc vs r u j e);
      }

  -- the two ends of one view: the left one puts, the right one takes, under any name under which all that was put is legal
  pub forks : (port : ℕ) (v : EndView T) (name : Option LinkName) → v.puts ≡ true → v.takes ≡ true → LegalFor legal name (wires_of v.put)
      → Forks (Linked legal) port v (end_view name true false v.put []) (end_view name false true [] v.taken)
  forks port v name a b fits items views h at =
      let l : EndView T = end_view name true false v.put [] in
      let r : EndView T = end_view name false true [] v.taken in
      let mine = h.known port v at in
      let p = mine.0 a in
      let t = mine.1 b in
      let vs : List (EndView T) = set views port l in
      let Old : ℕ → EndView T → Type 0 = λ j u. (u.puts ≡ true → (j ≡ h.putter) × (u.name ≡ name) × (u.put ≡ h.put)) × (u.takes ≢ true) in
      let old : All Old vs = all_set Old views port l ((λ _. (p.0, refl, p.2)), λ q. true≢false (sym q))
      (λ j u other e. ((λ q. absurd (other (((h.known j u e).0 q).0 ∙ sym p.0))), λ q. other (((h.known j u e).1 q).0 ∙ sym t.0))) in
      record {
        name = name;
        putter = h.putter;
        taker = length vs;
        put = h.put;
        taken = h.taken;
        in_order = h.in_order;
        is_legal = λ m e. subst (λ (xs : List (Stamped T)). legal m (wires_of xs)) p.2 (fits m e);
        rises = h.rises;
        known = λ j u e. ⊎_elim (λ x. ((old j u x).0, λ q. absurd ((old j u x).1 q)))
            (λ (is : r ≡ u). (
              (λ q. absurd (true≢false (sym (ap (λ (y : EndView T). y.puts) is ∙ q)))),
              λ q. (at_end vs r u j (λ x. (old j u x).1 q) e, ap (λ (y : EndView T). y.name) (sym is), ap (λ (y : EndView T). y.taken) (sym is) ∙ t.2),
            )) (at_snoc vs r u j e);
      }

  pub merges : (port : ℕ) (v : EndView T) (other : ℕ) (u : EndView T) → v.puts ≡ true → u.takes ≡ true
      → Merges (Linked legal) port v other u (end_view v.name true true v.put u.taken) (end_view None false false [] [])
  merges port v other u a b items views h at two at' =
      let both : EndView T = end_view v.name true true v.put u.taken in
      let none : EndView T = end_view None false false [] [] in
      let mine = h.known port v at in
      let p = mine.0 a in
      let vs : List (EndView T) = set views port both in
      let was : get_elem? views other ≡ option.some u = ⊎_elim (λ x. absurd (two x.0)) (λ x. x.1) (at_set views port other both u at') in
      let theirs = (h.known other u was).1 b in
      let Now : ℕ → EndView T → Type 0 = λ j y. j ≢ other → Knows h.name h.putter port h.put h.taken j y in
      let now : All Now vs = all_set Now views port both (λ _. ((λ _. p), λ _. (refl, p.1, theirs.2)))
      (λ j y _ e apart. ((h.known j y e).0, λ q. absurd (apart (((h.known j y e).1 q).0 ∙ sym theirs.0)))) in
      record {
        name = h.name;
        putter = h.putter;
        taker = port;
        put = h.put;
        taken = h.taken;
        in_order = h.in_order;
        is_legal = h.is_legal;
        rises = h.rises;
        known = all_set (Knows h.name h.putter port h.put h.taken) vs other none
            ((λ q. absurd (true≢false (sym q))), λ q. absurd (true≢false (sym q))) (λ j y apart e. now j y e apart);
      }

  pub fronts : (port : ℕ) (v : EndView T) → v.puts ≡ true → Learns (Linked legal) port v (AreLastOf (wires_of v.put))
  fronts port v a items views h at = (
    wires_of h.taken,
    ap (λ l. wires_of l) (((h.known port v at).0 a).2 ∙ h.in_order) ∙ map-append (λ (x : Stamped T). x.wire) h.taken items,
  )

  pub backs : (port : ℕ) (v : EndView T) → v.takes ≡ true → Learns (Linked legal) port v (MayFollow legal v.name (wires_of v.taken))
  backs port v b items views h at n e =
      let t = (h.known port v at).1 b in
      subst (λ (l : List (Wire T)). legal n l) (map-append (λ (x : Stamped T). x.wire) v.taken items)
      (subst (λ (l : List (Stamped T)). legal n (wires_of l)) (h.in_order ∙ ap (λ l. l ++ items) (sym t.2)) (h.is_legal n (sym t.1 ∙ e)))

  pub totals : (port : ℕ) (v : EndView T) → v.puts ≡ true → v.takes ≡ true → Learns (Linked legal) port v (IsAllOf legal v)
  totals port v a b items views h at =
      let mine = h.known port v at in
      let p = mine.0 a in (
        p.2 ∙ h.in_order ∙ ap (λ l. l ++ items) (sym (mine.1 b).2),
        λ n e. subst (λ (l : List (Stamped T)). legal n (wires_of l)) (sym p.2) (h.is_legal n (sym p.1 ∙ e)),
      )

or_last : (b : Bool) → b || true ≡ true
or_last true = refl
or_last false = refl

module _ {T : Type 0} where
  close_last : (xs : List (Wire T)) (x : Wire T) → has_close (xs ++ x ∷ []) ≡ has_close xs || is_close x
  close_last [] x = or-false (is_close x) ∙ sym (false-or (is_close x))
  close_last (y ∷ ys) x = ap (λ b. is_close y || b) (close_last ys x) ∙ sym (or_assoc (is_close y) (has_close ys) (is_close x))

  not_close : (x : Wire T) → (x ≡ Close → ⊥) → is_close x ≡ false
  not_close (Payload q v) n = refl
  not_close (Ack q) n = refl
  not_close (Safe q) n = refl
  not_close Close n = absurd (n refl)

  -- a list that got a close has one
  pub closes : (xs ws : List (Stamped T)) (x : Stamped T) → x.wire ≡ Close → ws ≡ xs ++ x ∷ [] → true ≡ has_close (wires_of ws)
  closes old new item is e =
      let xs = wires_of old in
      let x = item.wire in
      sym (ap (λ l. has_close (wires_of l)) e ∙ ap has_close (map-append (λ (y : Stamped T). y.wire) old (item ∷ [])) ∙ close_last xs x
      ∙ ap (λ w. has_close xs || is_close w) is ∙ or_last (has_close xs))

  -- a list that got any other wire has a close exactly if it had one
  pub stays : (b : Bool) (xs ws : List (Stamped T)) (x : Stamped T) → (x.wire ≡ Close → ⊥) → b ≡ has_close (wires_of xs) → ws ≡ xs ++ x ∷ []
      → b ≡ has_close (wires_of ws)
  stays b old new item other was e =
      let xs = wires_of old in
      let x = item.wire in
      was ∙ sym (ap (λ l. has_close (wires_of l)) e ∙ ap has_close (map-append (λ (y : Stamped T). y.wire) old (item ∷ [])) ∙ close_last xs x
      ∙ ap (λ c. has_close xs || c) (not_close x other) ∙ or-false (has_close xs))

  passes : (w : Wire T) (ws : List (Wire T)) → (w ≡ Close → ⊥) → (IsTrue (has_close ws) ↔ Contains ws Close) → IsTrue (has_close ws) ↔ Contains (w ∷ ws) Close
  passes w ws other rest = (
    (λ e. Contains-append_right (w ∷ []) ws Close (rest.0 e)),
    λ c. ⊎_elim (λ d. absurd (other (contains_one w Close d))) rest.1 (Contains-append_cases (w ∷ []) ws Close c),
  )

  -- the test finds a close exactly where one is
  pub has_close-finds : (ws : List (Wire T)) → IsTrue (has_close ws) ↔ Contains ws Close
  has_close-finds [] = ((λ e. absurd cc), λ c. absurd (contains_nil Close c))
  has_close-finds (Close ∷ ws) = ((λ _. (0, omega arith, refl)), λ _. refl)
  has_close-finds (Payload q x ∷ ws) = passes (Payload q x) ws (λ e. absurd cc) (has_close-finds ws)
  has_close-finds (Ack q ∷ ws) = passes (Ack q) ws (λ e. absurd cc) (has_close-finds ws)
  has_close-finds (Safe q ∷ ws) = passes (Safe q) ws (λ e. absurd cc) (has_close-finds ws)

module _ {S M E : Type 0} (program : Program S M E) where
  -- a beginning of a legal list is legal
  pub legal_begin : (n : LinkName) (xs ys : List (Stamped M)) → IsLegalOn program n (wires_of (xs ++ ys)) → IsLegalOn program n (wires_of xs)
  legal_begin n xs ys legal =
      legal-front _ _ _ (wires_of xs) (wires_of ys) (subst (λ l. IsLegalOn program n l) (map-append (λ (x : Stamped M). x.wire) xs ys) legal)

  -- the empty list is legal
  pub legal_none : (name : Option LinkName) → LegalFor (IsLegalOn program) name []
  legal_none name n e = record {
    wires = refl;
    acks = refl;
    close = λ xs ys is. absurd (none xs ys is);
  }
    where
      none : (xs ys : List (Wire M)) → [] ≡ xs ++ (Close ∷ ys) → ⊥
      none [] ys is = cc
      none (x ∷ xs) ys is = cc

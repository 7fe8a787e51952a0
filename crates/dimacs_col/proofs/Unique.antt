-- A text has one reading.
-- Two ascending lists with the same members are one list: their heads are each other's least member.
-- Two places in a list are one, or one stands among the lines before the other, and is good.
use Rattle.std.proofs.Common.{◌≡◌, ◌≢◌, ◌++◌, ◌⊎◌, inl, inr, ◌||◌, ◌==◌, ℕ, Bool, true, false, Some, None, List, [], ◌∷◌, refl, sym, ◌∙◌, ap, subst}
use Rattle.std.specs.Set.{is_member}
use Rattle.std.specs.List.{Contains, AllByRecursion}
use Rattle.std.specs.List.Sorted.{IsStrictlySortedBy}
use Rattle.std.specs.Cmp.{both_ways, unsigned_ties}
use Rattle.std.specs.Map.{keys_of}
use Rattle.std.specs.Ordering.{is_eq, nat_cmp, ordering_reverse}
use Rattle.std.proofs.lemmas.Bool.{cases_eq, eq-eqb, ne_eqb}
use Rattle.std.proofs.lemmas.Cmp.{nat_cmp_total}
use Rattle.std.proofs.lemmas.Map.Lookups.{exact_unsigned}
use Rattle.std.specs.declared.cmp.Ordering.{Ordering}
use Rattle.std.specs.declared.cmp.Ordering.TheVariants.{Less, Equal, Greater}
use Rattle.dimacs_col.specs.Lines.{Line}
use Rattle.dimacs_col.specs.Reading.{AllGood, Graph, id_in, nodes_of, verdict, IsFirstFault, IsFault, IsGraph}
use Rattle.graph_limits.specs.Pairs.{pair_cmp, same_pair}
use Rattle.dimacs_col.specs.Bag.{SameMembers}
use Rattle.dimacs_col.specs.declared.fault.ColFault.{ColFault}
use Rattle.dimacs_col.specs.declared.fault.ColFault.TheVariants.{NoProblem, SecondProblem, EdgeBeforeProblem, BadField, VertexRange, SelfLoop, TooLarge}
use Rattle.dimacs_col.specs.declared.fault.ColFault.TheVariants.{UnknownLine, EarlyLine, NumberRange, IdTwice, ChannelRange, TooManyBars, Memory}
use Rattle.graph_limits.proofs.Pairs.{pair_total, same_pair-laws, same_pair-exact}
use Rattle.dimacs_col.proofs.Members.{members-from_Contains}

-- ---- ascending lists
first-or : (q x : ℕ × ℕ) (xs : List (ℕ × ℕ)) → is_member same_pair (x ∷ xs) q ≡ true → (q ≡ x) ⊎ (is_member same_pair xs q ≡ true)
first-or q x xs h = or-by (same_pair q x) refl h
  where
    or-by : (b : Bool) → same_pair q x ≡ b → (b || is_member same_pair xs q) ≡ true → (q ≡ x) ⊎ (is_member same_pair xs q ≡ true)
    or-by true t g = inl (same_pair-exact q x t)
    or-by false t g = inr g

in-front : (x : ℕ × ℕ) (xs : List (ℕ × ℕ)) → is_member same_pair (x ∷ xs) x ≡ true
in-front x xs = ap (λ b. b || is_member same_pair xs x) (same_pair-laws.refl x)

behind : (q x : ℕ × ℕ) (xs : List (ℕ × ℕ)) → is_member same_pair xs q ≡ true → is_member same_pair (x ∷ xs) q ≡ true
behind q x xs h = or-true (same_pair q x) (is_member same_pair xs q) h
  where
    or-true : (a b : Bool) → b ≡ true → (a || b) ≡ true
    or-true true b e = refl
    or-true false b e = e

above : (x : ℕ × ℕ) (xs : List (ℕ × ℕ)) (q : ℕ × ℕ) → AllByRecursion (λ y. pair_cmp x y ≡ Less) xs → is_member same_pair xs q ≡ true → pair_cmp x q ≡ Less
above x [] q all h = absurd cc
above x (y ∷ ys) q all h = elim (first-or q y ys h) [
  | inl is ↦ subst (λ p. pair_cmp x p ≡ Less) (sym is) all.0
  | inr more ↦ above x ys q all.1 more
]

not-below : (x y : ℕ × ℕ) → pair_cmp x y ≡ Less → pair_cmp y x ≡ Less → ⊥
not-below x y f g = let e : Less ≡ ordering_reverse Less = sym f ∙ pair_total.antisymm x y ∙ ap ordering_reverse g in absurd cc

same-heads : (x y : ℕ × ℕ) (xs ys : List (ℕ × ℕ)) → AllByRecursion (λ z. pair_cmp x z ≡ Less) xs → AllByRecursion (λ z. pair_cmp y z ≡ Less) ys →
    SameMembers (x ∷ xs) (y ∷ ys) → x ≡ y
same-heads x y xs ys f g same = elim (first-or x y ys (sym (same x) ∙ in-front x xs)) [
  | inl is ↦ is
  | inr low ↦ elim (first-or y x xs (same y ∙ in-front y ys)) [
    | inl is ↦ sym is
    | inr high ↦ absurd (not-below x y (above x xs y f high) (above y ys x g low))
  ]
]

tail-in : (x : ℕ × ℕ) (xs ys : List (ℕ × ℕ)) (q : ℕ × ℕ) → AllByRecursion (λ z. pair_cmp x z ≡ Less) xs → SameMembers (x ∷ xs) (x ∷ ys) →
    is_member same_pair xs q ≡ true → is_member same_pair ys q ≡ true
tail-in x xs ys q f same h = elim (first-or q x ys (sym (same q) ∙ behind q x xs h)) [
  | inl is ↦ let low : pair_cmp x x ≡ Less = above x xs x f (subst (λ p. is_member same_pair xs p ≡ true) is h) in absurd (not-below x x low low)
  | inr more ↦ more
]

same-list : (xs ys : List (ℕ × ℕ)) → IsStrictlySortedBy pair_cmp xs → IsStrictlySortedBy pair_cmp ys → SameMembers xs ys → xs ≡ ys
unfolding IsStrictlySortedBy
same-list [] [] f g same = refl
same-list [] (y ∷ ys) f g same = let e : false ≡ true = same y ∙ in-front y ys in absurd cc
same-list (x ∷ xs) [] f g same = let e : false ≡ true = sym (same x) ∙ in-front x xs in absurd cc
same-list (x ∷ xs) (y ∷ ys) f g same =
    let is : x ≡ y = same-heads x y xs ys f.0 g.0 same in
    let both : SameMembers (x ∷ xs) (x ∷ ys) = subst (λ z. SameMembers (x ∷ xs) (z ∷ ys)) (sym is) same in
    let low : AllByRecursion (λ z. pair_cmp x z ≡ Less) ys = subst (λ p. AllByRecursion (λ z. pair_cmp p z ≡ Less) ys) (sym is) g.0 in
    let rest : xs ≡ ys = same-list xs ys f.1 g.1 (λ q. both_ways (is_member same_pair xs q) (is_member same_pair ys q) (λ h. tail-in x xs ys q f.0 both h)
    (λ h. tail-in x ys xs q low (λ p. sym (both p)) h)) in
    ap (λ zs. x ∷ zs) rest ∙ ap (λ z. z ∷ ys) is

-- ---- identifiers: two ascending lists that give each vertex the same are one list
-- a vertex below all those of a list has none there
below-all : (v : ℕ) (ids : List (ℕ × ℕ)) → AllByRecursion (λ k. nat_cmp v k ≡ Less) (keys_of ids) → id_in ids v ≡ None
below-all v [] low = refl
below-all v (e ∷ es) low = let apart : (v == e.0) ≡ false = unsigned_ties v e.0 ∙ ap is_eq low.0 in rw apart (below-all v es low.1)

further-below : (a b : ℕ) (ks : List ℕ) → nat_cmp a b ≡ Less → AllByRecursion (λ k. nat_cmp b k ≡ Less) ks → AllByRecursion (λ k. nat_cmp a k ≡ Less) ks
further-below a b [] h low = tt
further-below a b (k ∷ ks) h low = (nat_cmp_total.trans a b k h low.0, further-below a b ks h low.1)

id-here : (x : ℕ × ℕ) (xs : List (ℕ × ℕ)) → id_in (x ∷ xs) x.0 ≡ Some x.1
id-here x xs = rw (eq-eqb x.0 x.0 refl) refl

id-there : (v : ℕ) (x : ℕ × ℕ) (xs : List (ℕ × ℕ)) → (v ≡ x.0 → ⊥) → id_in (x ∷ xs) v ≡ id_in xs v
id-there v x xs apart = rw (ne_eqb v x.0 apart) refl

no-less : (x y : ℕ × ℕ) (xs ys : List (ℕ × ℕ)) → nat_cmp x.0 y.0 ≡ Less → AllByRecursion (λ k. nat_cmp y.0 k ≡ Less) (keys_of ys) →
    id_in (x ∷ xs) x.0 ≡ id_in (y ∷ ys) x.0 → ⊥
no-less x y xs ys h low same =
    let none : id_in (y ∷ ys) x.0 ≡ None = below-all x.0 (y ∷ ys) (h, further-below x.0 y.0 (keys_of ys) h low) in
    let e : Some x.1 ≡ None = sym (id-here x xs) ∙ same ∙ none in absurd cc

same-keys : (x y : ℕ × ℕ) (xs ys : List (ℕ × ℕ)) → AllByRecursion (λ k. nat_cmp x.0 k ≡ Less) (keys_of xs) →
    AllByRecursion (λ k. nat_cmp y.0 k ≡ Less) (keys_of ys) → ((v : ℕ) → id_in (x ∷ xs) v ≡ id_in (y ∷ ys) v) → x.0 ≡ y.0
same-keys x y xs ys f g same = by-order (nat_cmp x.0 y.0) refl
  where
    by-order : (o : Ordering) → nat_cmp x.0 y.0 ≡ o → x.0 ≡ y.0
    by-order Less o = absurd (no-less x y xs ys o g (same x.0))
    by-order Equal o = exact_unsigned x.0 y.0 o
    by-order Greater o = absurd (no-less y x ys xs (nat_cmp_total.antisymm y.0 x.0 ∙ ap ordering_reverse o) f (sym (same y.0)))

same-tails : (x y : ℕ × ℕ) (xs ys : List (ℕ × ℕ)) → x.0 ≡ y.0 → AllByRecursion (λ k. nat_cmp x.0 k ≡ Less) (keys_of xs) →
    AllByRecursion (λ k. nat_cmp y.0 k ≡ Less) (keys_of ys) → ((v : ℕ) → id_in (x ∷ xs) v ≡ id_in (y ∷ ys) v) →
    (v : ℕ) → (v ≡ x.0) ⊎ (v ≡ x.0 → ⊥) → id_in xs v ≡ id_in ys v
same-tails x y xs ys key f g same v (inl is) =
    ap (λ q. id_in xs q) is ∙ below-all x.0 xs f ∙ sym (ap (λ q. id_in ys q) (is ∙ key) ∙ below-all y.0 ys g)
same-tails x y xs ys key f g same v (inr apart) = sym (id-there v x xs apart) ∙ same v ∙ id-there v y ys (λ e. apart (e ∙ sym key))

same-entry : (x y : ℕ × ℕ) → x.0 ≡ y.0 → x.1 ≡ y.1 → x ≡ y
same-entry (a, b) (c, d) p q = ap (λ k. (k, b)) p ∙ ap (λ n. (c, n)) q

same-ids : (ids others : List (ℕ × ℕ)) → IsStrictlySortedBy nat_cmp (keys_of ids) → IsStrictlySortedBy nat_cmp (keys_of others) →
    ((v : ℕ) → id_in ids v ≡ id_in others v) → ids ≡ others
unfolding IsStrictlySortedBy
same-ids [] [] f g same = refl
same-ids [] (y ∷ ys) f g same = let e : None ≡ Some y.1 = same y.0 ∙ id-here y ys in absurd cc
same-ids (x ∷ xs) [] f g same = let e : None ≡ Some x.1 = sym (same x.0) ∙ id-here x xs in absurd cc
same-ids (x ∷ xs) (y ∷ ys) f g same =
    let key : x.0 ≡ y.0 = same-keys x y xs ys f.0 g.0 same in
    let e : Some x.1 ≡ Some y.1 = sym (id-here x xs) ∙ same x.0 ∙ ap (λ q. id_in (y ∷ ys) q) key ∙ id-here y ys in
    let value : x.1 ≡ y.1 = cc in
    let rest : xs ≡ ys = same-ids xs ys f.1 g.1 (λ v. same-tails x y xs ys key f.0 g.0 same v (cases_eq v x.0)) in
    ap (λ zs. x ∷ zs) rest ∙ ap (λ z. z ∷ ys) (same-entry x y key value)

-- ---- graphs
abbrev graph-with : ℕ → List (ℕ × ℕ) → List (ℕ × ℕ) → List (ℕ × ℕ) → Graph
graph-with nodes ids edges bars = record { nodes = nodes; ids = ids; edges = edges; bars = bars }

same-graph : (f g : Graph) → f.nodes ≡ g.nodes → f.ids ≡ g.ids → f.edges ≡ g.edges → f.bars ≡ g.bars → f ≡ g
same-graph f g a b d e =
    ap (λ k. graph-with k f.ids f.edges f.bars) a ∙ ap (λ xs. graph-with g.nodes xs f.edges f.bars) b ∙ ap (λ xs. graph-with g.nodes g.ids xs f.bars) d
    ∙ ap (graph-with g.nodes g.ids g.edges) e

pub one-graph : (lines : List Line) (graph other : Graph) → IsGraph lines graph → IsGraph lines other → graph ≡ other
one-graph lines graph other f g =
    let e : Some graph.nodes ≡ Some other.nodes = sym f.nodes_are ∙ g.nodes_are in
    let nodes : graph.nodes ≡ other.nodes = cc in
    let ids = same-ids graph.ids other.ids f.ids_ascend g.ids_ascend (λ v. f.ids_are v ∙ sym (g.ids_are v)) in
    let there = λ (pair : ℕ × ℕ) (h : Contains graph.edges pair). (g.edges_are pair).1 ((f.edges_are pair).0 h) in
    let back = λ (pair : ℕ × ℕ) (h : Contains other.edges pair). (f.edges_are pair).1 ((g.edges_are pair).0 h) in
    let edges = same-list graph.edges other.edges f.edges_ascend g.edges_ascend (members-from_Contains graph.edges other.edges there back) in
    let bar_there = λ (bar : ℕ × ℕ) (h : Contains graph.bars bar). (g.bars_are bar).1 ((f.bars_are bar).0 h) in
    let bar_back = λ (bar : ℕ × ℕ) (h : Contains other.bars bar). (f.bars_are bar).1 ((g.bars_are bar).0 h) in
    let bars = same-list graph.bars other.bars f.bars_ascend g.bars_ascend (members-from_Contains graph.bars other.bars bar_there bar_back) in
    same-graph graph other nodes ids edges bars

-- ---- faults
-- what a fault is, with the faults of a line taken together
data Told (lines : List Line) (fault : ColFault) : Type 0 where
  no_memory : fault ≡ Memory → Told lines fault
  no_problem : fault ≡ NoProblem → AllGood lines → nodes_of lines ≡ None → Told lines fault
  at_line : IsFirstFault lines fault → Told lines fault

told : (lines : List Line) (fault : ColFault) → IsFault lines fault → Told lines fault
told lines Memory h = no_memory refl
told lines NoProblem h = no_problem refl h.0 h.1
told lines (SecondProblem n) h = at_line h
told lines (EdgeBeforeProblem n) h = at_line h
told lines (BadField n) h = at_line h
told lines (VertexRange n) h = at_line h
told lines (SelfLoop n) h = at_line h
told lines (TooLarge n) h = at_line h
told lines (UnknownLine n) h = at_line h
told lines (EarlyLine n) h = at_line h
told lines (NumberRange n) h = at_line h
told lines (IdTwice n) h = at_line h
told lines (ChannelRange n) h = at_line h
told lines (TooManyBars n) h = at_line h

not-good : (lines : List Line) (fault : ColFault) → AllGood lines → IsFirstFault lines fault → ⊥
not-good lines fault good h = let e : Some fault ≡ None = sym h.told ∙ good h.before h.line h.after h.place in absurd cc

pub graph-or_fault : (lines : List Line) (graph : Graph) (fault : ColFault) → IsGraph lines graph → IsFault lines fault → fault ≡ Memory
graph-or_fault lines graph fault g h = elim (told lines fault h) [
  | no_memory is ↦ is
  | no_problem is good none ↦ let e : Some graph.nodes ≡ None = sym g.nodes_are ∙ none in absurd cc
  | at_line first ↦ absurd (not-good lines fault g.good first)
]

-- two places in a list
two-places : (b : List Line) (l : Line) (a : List Line) (c : List Line) (k : Line) (d : List Line) → b ++ l ∷ a ≡ c ++ k ∷ d →
    ((b ≡ c) × (l ≡ k)) ⊎ (((m : List Line) × (b ≡ c ++ k ∷ m)) ⊎ ((m : List Line) × (c ≡ b ++ l ∷ m)))
two-places [] l a [] k d e = inl (refl, cc)
two-places [] l a (y ∷ ys) k d e = let h : l ≡ y = cc in inr (inr (ys, cc))
two-places (x ∷ xs) l a [] k d e = let h : x ≡ k = cc in inr (inl (xs, cc))
two-places (x ∷ xs) l a (y ∷ ys) k d e =
    let h : x ≡ y = cc in
    let t : xs ++ l ∷ a ≡ ys ++ k ∷ d = cc in
    elim (two-places xs l a ys k d t) [
      | inl p ↦ inl (cc, p.1)
      | inr q ↦ elim q [ inl m ↦ inr (inl (m.0, cc)) | inr m ↦ inr (inr (m.0, cc)) ]
    ]

one-place : (lines : List Line) (fault other : ColFault) → IsFirstFault lines fault → IsFirstFault lines other → fault ≡ other
one-place lines fault other f g = elim (two-places f.before f.line f.after g.before g.line g.after (sym f.place ∙ g.place)) [
  | inl p ↦
      let e : Some fault ≡ Some other = sym f.told ∙ ap (λ b. verdict b f.line) p.0 ∙ ap (verdict g.before) p.1 ∙ g.told in cc
  | inr q ↦ elim q [
    | inl m ↦ let e : Some other ≡ None = sym g.told ∙ f.good g.before g.line m.0 m.1 in absurd cc
    | inr m ↦ let e : Some fault ≡ None = sym f.told ∙ g.good f.before f.line m.0 m.1 in absurd cc
  ]
]

pub one-fault : (lines : List Line) (fault other : ColFault) → IsFault lines fault → IsFault lines other → fault ≢ Memory → other ≢ Memory → fault ≡ other
one-fault lines fault other f g nf ng = elim (told lines fault f) [
  | no_memory is ↦ absurd (nf is)
  | no_problem is good none ↦ elim (told lines other g) [
    | no_memory e ↦ absurd (ng e)
    | no_problem e also same ↦ is ∙ sym e
    | at_line h ↦ absurd (not-good lines other good h)
  ]
  | at_line h ↦ elim (told lines other g) [
    | no_memory e ↦ absurd (ng e)
    | no_problem e good none ↦ absurd (not-good lines fault good h)
    | at_line k ↦ one-place lines fault other h k
  ]
]

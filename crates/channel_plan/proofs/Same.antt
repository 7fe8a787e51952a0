-- The table of the rows of a plan shows what the rows do, and the fault of a plan is the first of its parts.
use Rattle.std.proofs.Common.{◌≡◌, ◌∷◌, [], ℕ, Bool, Option, Some, None, List, All, ap, ap₂, get_or, is_none, nat_lt, refl, ◌&&◌}
use Rattle.std.proofs.lemmas.List.Elements.{Contains-get_or, recursion_from_All}
use Rattle.std.specs.List.{AllByRecursion, find}
use Rattle.std.specs.Option.{option_map}
use Rattle.interference.specs.Net.{IsNetwork, IsVertex, Net, neighbours, vertices}
use Rattle.interference.proofs.Neighbours.{neighbour-is_vertex}
use Rattle.channel_plan.specs.Checked.{Channels, IsFaultOfPlan, IsFaultOfRow, IsTable, channel_of, clash_among, clash_at, clashes, fault_of, first_clash}
use Rattle.channel_plan.specs.Checked.{first_missing, channels_in, rows_fault, same_channel}
use Rattle.channel_plan.specs.Reading.{Row}
use Rattle.channel_plan.specs.declared.plan.CheckFault.{CheckFault}
use Rattle.channel_plan.specs.declared.plan.CheckFault.TheVariants.{Barred, Clash, Memory, Missing, Stranger, Syntax, TooHigh, Twice}
use Rattle.channel_plan.proofs.Proper.{vertices-are}

find-same : (p q : ℕ → Bool) (xs : List ℕ) → AllByRecursion (λ x. p x ≡ q x) xs → find p xs ≡ find q xs
find-same p q [] all = refl
find-same p q (x ∷ xs) all = rw (all.0, find-same p q xs all.1) refl

pub same-missing : (net : Net) (rows : List Row) (table : List (Option ℕ)) → IsTable net rows table →
    first_missing net (channels_in table) ≡ first_missing net (channel_of rows)
same-missing net rows table is =
    find-same (λ v. is_none (channels_in table v)) (λ v. is_none (channel_of rows v)) (vertices net)
    (recursion_from_All (λ v. is_none (channels_in table v) ≡ is_none (channel_of rows v)) (vertices net)
    (λ k d below. ap is_none (is.each (get_or (vertices net) k d) (vertices-are net k d below))))

clash-same : (net : Net) (one other : Channels) (vs : List ℕ) → AllByRecursion (λ v. clash_at net one v ≡ clash_at net other v) vs →
    clash_among net one vs ≡ clash_among net other vs
clash-same net one other [] all = refl
clash-same net one other (v ∷ vs) all = rw (all.0, clash-same net one other vs all.1) refl

pub same-clash : (net : Net) (rows : List Row) (table : List (Option ℕ)) → IsNetwork net → IsTable net rows table →
    first_clash net (channels_in table) ≡ first_clash net (channel_of rows)
same-clash net rows table ok is =
    clash-same net (channels_in table) (channel_of rows) (vertices net)
    (recursion_from_All (λ v. clash_at net (channels_in table) v ≡ clash_at net (channel_of rows) v) (vertices net) at_each)
  where
    at-port : (v : ℕ) → IsVertex net v → All (λ w. clashes (channels_in table) v w ≡ clashes (channel_of rows) v w) (neighbours net v)
    at-port v hv = λ i e within.
        let w = get_or (neighbours net v) i e in
        let hw = neighbour-is_vertex net ok v w hv (Contains-get_or (neighbours net v) i e within) in
        ap (λ b. nat_lt v w && b) (ap₂ same_channel (is.each v hv) (is.each w hw))

    at_each : All (λ v. clash_at net (channels_in table) v ≡ clash_at net (channel_of rows) v) (vertices net)
    at_each = λ k d below.
        let v = get_or (vertices net) k d in
        ap (option_map (λ (w : ℕ). (v, w)))
        (find-same (clashes (channels_in table) v) (clashes (channel_of rows) v) (neighbours net v) (recursion_from_All (λ w. clashes (channels_in table) v w
        ≡ clashes (channel_of rows) v w) (neighbours net v) (at-port v (vertices-are net k d below))))

-- ---- the fault of a plan, part by part
part-row : (net : Net) (rows : List Row) (fault : CheckFault) → rows_fault net [] rows ≡ Some fault → fault_of net rows ≡ Some fault
unfolding fault_of
part-row net rows fault is = rw is refl

pub fault-row : (net : Net) (rows : List Row) (fault : CheckFault) → IsFaultOfRow (rows_fault net [] rows) fault → IsFaultOfPlan net rows fault
fault-row net rows Memory is = tt
fault-row net rows (Missing v) is = part-row net rows (Missing v) is
fault-row net rows (Stranger v) is = part-row net rows (Stranger v) is
fault-row net rows (Twice v) is = part-row net rows (Twice v) is
fault-row net rows (Clash v w) is = part-row net rows (Clash v w) is
fault-row net rows (TooHigh v) is = part-row net rows (TooHigh v) is
fault-row net rows (Barred v) is = part-row net rows (Barred v) is
fault-row net rows (Syntax n) is = part-row net rows (Syntax n) is

pub fault-missing : (net : Net) (rows : List Row) (v : ℕ) → rows_fault net [] rows ≡ None → first_missing net (channel_of rows) ≡ Some v →
    fault_of net rows ≡ Some (Missing v)
unfolding fault_of
fault-missing net rows v good is = rw (good, is) refl

pub fault-clash : (net : Net) (rows : List Row) (v w : ℕ) → rows_fault net [] rows ≡ None → first_missing net (channel_of rows) ≡ None →
    first_clash net (channel_of rows) ≡ Some (v, w) → fault_of net rows ≡ Some (Clash v w)
unfolding fault_of
fault-clash net rows v w good all is = rw (good, all, is) refl

pub fault-none : (net : Net) (rows : List Row) → rows_fault net [] rows ≡ None → first_missing net (channel_of rows) ≡ None →
    first_clash net (channel_of rows) ≡ None → fault_of net rows ≡ None
unfolding fault_of
fault-none net rows good all is = rw (good, all, is) refl

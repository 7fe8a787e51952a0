-- This pulse of a node and its next: what a port has of each, and what is kept of each.
use Rattle.std.specs.Prelude.{ℕ, Bool, true, not, nat_eq, if◌then◌else◌, Option, Some, List}
use Rattle.alpha_core.specs.declared.marks.Marks.{Marks}
use Rattle.alpha_core.specs.declared.when.When.{When}
use Rattle.alpha_core.specs.declared.when.When.TheVariants.{Now, Next}
use Rattle.alpha_core.specs.Rows.{Taken}
use Rattle.alpha_core.specs.View.{Port}

-- which of the two pulse q is, at pulse p
abbrev pub when_of : ℕ → ℕ → When
when_of p q = if nat_eq q p then Now else Next

-- how many safes come before that of the pulse, counted from this one
abbrev pub safes_before : When → ℕ
safes_before Now = 0
safes_before Next = 1

-- the payload of the pulse that was taken at a port
abbrev pub payload_taken : {M : Type 0} → When → Port M → Option M
payload_taken Now port = port.present
payload_taken Next port = port.early

-- a port at which this payload of the pulse was taken
abbrev pub with_payload : {M : Type 0} → When → M → Port M → Port M
with_payload Now x port = record port { present = Some x }
with_payload Next x port = record port { early = Some x }

-- a port at which the safe of the pulse was taken
abbrev pub with_safe : {M : Type 0} → When → Port M → Port M
with_safe Now port = record port { safe = true }
with_safe Next port = record port { early_safe = true }

-- the flags of such a port
abbrev pub mark_safe : When → Marks → Marks
mark_safe Now m = record m { safe = true }
mark_safe Next m = record m { early_safe = true }

-- the payloads of the pulse, by port
abbrev pub slots_of : {M : Type 0} → When → Taken M → List (Option M)
slots_of Now taken = taken.present
slots_of Next taken = taken.early

abbrev pub with_slots : {M : Type 0} → When → List (Option M) → Taken M → Taken M
with_slots Now slots taken = record taken { present = slots }
with_slots Next slots taken = record taken { early = slots }

-- the payloads of the pulse are in the odd inbox, where this pulse is odd or not
abbrev pub in_odd : When → Bool → Bool
in_odd Now at_odd = at_odd
in_odd Next at_odd = not at_odd

-- What a node wrote down and its stamps, as its recorder has them once room for an entry was made.
use Rattle.std.proofs.Common.{◌≡◌, ℕ, true, false, if◌then◌else◌, List, [], ◌∷◌, ◌++◌, refl, sym, ap, ◌∙◌}
use Rattle.std.proofs.Math.Path.{transport}
use Rattle.std.specs.Prelude.{Bool}
use Rattle.std.proofs.lemmas.List.{map-append}
use Rattle.interference.specs.Net.{Net}
use Rattle.node_api.specs.Program.{Program}
use Rattle.wires.specs.declared.stamped.Stamped.{Stamped}
use Rattle.alpha_core.specs.View.{Node}
use Rattle.wires.specs.declared.wire.Wire.{Wire}
use Rattle.entries.specs.Recorded.{HasSame, HasWritten, entries_by, is_on}
use Rattle.entries.specs.declared.entry.Entry.{Entry}
use Rattle.entries.specs.declared.recorder.Recorder.{Recorder}
use Rattle.entries.specs.Rows.{stamped_entry, bare_of}
use Rattle.entries.specs.declared.rows.StampedEntry.{StampedEntry}
use Rattle.wired_nodes.specs.HasStamps.{HasStamps}
use Rattle.wired_nodes.specs.Written.{IsTranscript}

module _ {M : Type 0} {wrote new : Recorder M} (same : HasSame wrote new) where
  pub same-written : {S E : Type 0} {program : Program S M E} {net : Net} {v : ℕ} {node : Node S M} {puts takens : ℕ → List (Wire M)}
      → IsTranscript program net v (is_on wrote) node puts takens (bare_of (entries_by wrote))
      → IsTranscript program net v (is_on new) node puts takens (bare_of (entries_by new))
  same-written {program = program} {net = net} {v = v} {node = node} {puts = puts} {takens = takens} is =
      transport (λ k. IsTranscript program net v (sym same.on k) node puts takens (bare_of (sym same.entries k))) is

  pub same-stamped : {net : Net} {v counter : ℕ} {puts takens : ℕ → List (Stamped M)}
      → HasStamps net v (is_on wrote) counter puts takens (entries_by wrote) → HasStamps net v (is_on new) counter puts takens (entries_by new)
  same-stamped {net} {v} {counter} {puts} {takens} has =
      transport (λ k. HasStamps net v (sym same.on k) counter puts takens (sym same.entries k)) has

module _ {M : Type 0} where
  -- what was written down, without stamps
  bare-more : (on : Bool) (entries : List (StampedEntry M)) (e : StampedEntry M)
      → bare_of (if on then entries ++ (e ∷ []) else entries) ≡ (if on then bare_of entries ++ (e.entry ∷ []) else bare_of entries)
  bare-more true entries e = map-append (λ x. x.entry) entries (e ∷ [])
  bare-more false entries e = refl

  pub bare-written : {stamp : ℕ} {entry : Entry M} {old new : Recorder M} → HasWritten stamp entry old new
      → bare_of (entries_by new) ≡ (if is_on old then bare_of (entries_by old) ++ (entry ∷ []) else bare_of (entries_by old))
  bare-written {stamp} {entry} {old} more = ap (λ l. bare_of l) more.entries ∙ bare-more (is_on old) (entries_by old) (stamped_entry stamp entry)

use Rattle.std.proofs.Common.{◌≡◌, ◌-◌, map, take}
use Rattle.std.specs.Prelude.{slice_index}
use Rattle.play_inputs.specs.Roots.{exchanged_id}
use Rattle.play_inputs.proofs.setting_up.rooted_ids.Given as goal

abbrev pub invariant-loop-id : goal.invariant-loop-id
invariant-loop-id l = l.made.items ≡ map (exchanged_id l.fn.root.id (slice_index l.fn.ids (l.fn.root.vertex - 1))) (take l.id-index l.fn.ids)

use Rattle.std.proofs.Common.{◌≡◌, map, string_bytes}
use Rattle.std.specs.Prelude.{take}
use Rattle.serving.proofs.words.borrowed.Given as goal

abbrev pub invariant-loop-word : goal.invariant-loop-word
invariant-loop-word l = map (λ word. word.now) l.all.items ≡ map string_bytes (take l.word-index l.words)

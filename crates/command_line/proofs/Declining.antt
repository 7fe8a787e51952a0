-- What the words may be declined with, and what they ask for, if clap finds no fault in them.
use Rattle.std.proofs.Common.{◌≡◌, ◌≢◌, ◌⊎◌, ◌∙◌, List, [], ◌∷◌, Option, None, ap, inl, inr, refl, subst, sym}
use Rattle.clap.specs.Walk.{Row, Text}
use Rattle.clap.specs.Simple.{subcommand_of}
use Rattle.clap.specs.Faults.{fault_of}
use Rattle.clap.specs.Kinds.{IsAmong, Kinds}
use Rattle.clap.specs.declared.error.kind.ErrorKind.{ErrorKind}
use Rattle.clap.specs.declared.error.kind.ErrorKind.TheVariants.{DisplayHelp, OutOfMemory}
use Rattle.command_line.specs.Asked.{HasEntered, IsDeclinedBy, MayDecline, MayDeclineFault, asked_of, choice_of, unless_at_fault}
use Rattle.command_line.specs.Line.{line}
use Rattle.command_line.specs.declared.declined.Declined.{Declined}
use Rattle.command_line.specs.declared.declined.Declined.TheVariants as given
use Rattle.command_line.specs.declared.executable.Executable.{Executable}

out_of_memory_is_no_help : OutOfMemory ≢ DisplayHelp
out_of_memory_is_no_help same = cc

-- clap's kind is that of a fault, or that of memory; what it becomes is then what the words may be declined with
pub declined : (executable : Executable) (words : List Text) (kind : ErrorKind) (with : Declined)
    → (kind ≡ OutOfMemory) ⊎ IsAmong kind (fault_of (line executable) words) → IsDeclinedBy kind with → MayDeclineFault executable words with
declined executable words kind (given.Help text) (inl memory) is = absurd (out_of_memory_is_no_help (sym memory ∙ is))
declined executable words kind (given.Help text) (inr among) is = subst (λ k. IsAmong k (fault_of (line executable) words)) is among
declined executable words kind (given.Refused text) (inl memory) is = absurd (is.1 memory)
declined executable words kind (given.Refused text) (inr among) is = (kind, is.0, among)
declined executable words kind given.Memory has is = tt

module _ {A : Type 0} (executable : Executable) (named : Text → List Row → Option A) (words : List Text) where
  -- words without a fault ask for what the command does that was found
  pub taken : (found : Option (Text × List Row)) → HasEntered executable words found → asked_of executable named words ≡ choice_of named found
  taken found e =
      ap (λ (ks : Kinds). unless_at_fault ks (choice_of named (subcommand_of (line executable) words))) e.faultless
      ∙ ap (choice_of named) (sym e.command)

  -- words with a fault ask for nothing
  refused : (k : ErrorKind) → IsAmong k (fault_of (line executable) words) → asked_of executable named words ≡ None
  refused k h = go (fault_of (line executable) words) h
    where
      go : (ks : Kinds) → IsAmong k ks → unless_at_fault ks (choice_of named (subcommand_of (line executable) words)) ≡ None
      go [] h = absurd h
      go (x ∷ xs) h = refl

  pub at_fault : (with : Declined) → MayDeclineFault executable words with → MayDecline executable (asked_of executable named words) words with
  at_fault (given.Help text) is = (refused DisplayHelp is, is)
  at_fault (given.Refused text) is = (refused is.0 is.2, inl is)
  at_fault given.Memory is = tt

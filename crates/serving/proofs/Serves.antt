-- What was written, and reported, is what serves the words.
use Rattle.std.proofs.Common.{◌≡◌, ℕ, List, None, Some, IfErr, IfOk, Ok, Err, Result, inl, inr, subst, sym}
use Rattle.std.specs.declared.alloc.Global.{Global}
use Rattle.std.specs.declared.vec.Vec.{Vec}
use Rattle.command_line.specs.Asked.{AreRefused, AskForHelp}
use Rattle.command_line.specs.declared.executable.Executable.{Executable}
use Rattle.whole_streams.specs.Streams.{EndsAfter, IsUnended, WantsStreamFault}
use Rattle.whole_streams.specs.declared.source.ReadFault.{ReadFault}
use Rattle.whole_streams.specs.declared.source.ReadFault.TheVariants.{Memory, Stream}
use Rattle.serving.specs.CommandSet.{CommandSet}
use Rattle.serving.specs.Serve.{Declines, GivesAnswer, Puts, Refuses, Serves, ServesChoice, ServesWords}
use Rattle.serving.specs.Serve.{memory_line, stream_line, unread_line}
use Rattle.serving.specs.Streams.{HasNotFailed, IsReadInTime, Taken, Written}

module _ {A F : Type 0} (commands : CommandSet A F) (input : Taken) (output errors : Written) (status : ℕ) where
  -- the words ask for this
  pub served : (words : List (List ℕ)) (request : A) → commands.request_of words ≡ Some request
      → Serves commands request input output errors status → ServesWords commands words input output errors status
  served words request asks is = inl (subst (λ asked. ServesChoice commands asked words input output errors status) (sym asks) is)

  module _ (executable : Executable) (same : executable ≡ commands.executable) where
    -- a command, for whose input at most so many reads are made
    module _ (request : A) (in_time : IsReadInTime input) where
      -- the input ends after these bytes
      module _ (bytes : List ℕ) (ends : EndsAfter input.before input.after bytes) (quiet : HasNotFailed input) where
        given_by : (answer : Result (Vec ℕ Global) F) → IfOk answer (λ text. commands.MayAnswer request bytes (Ok text.items))
            → IfErr answer (λ fault. commands.MayAnswer request bytes (Err fault))
            → GivesAnswer commands commands.executable output errors answer status → Serves commands request input output errors status
        given_by (Ok text) ok err gives = (in_time, inl (bytes, ends, quiet, (Ok text.items, ok, gives)))
        given_by (Err fault) ok err (inl gives) = (in_time, inl (bytes, ends, quiet, (Err fault, err, gives)))
        given_by (Err fault) ok err (inr refuses) = (in_time, inr (inr (quiet, refuses)))

        pub given : (answer : Result (Vec ℕ Global) F) → IfOk answer (λ text. commands.MayAnswer request bytes (Ok text.items))
            → IfErr answer (λ fault. commands.MayAnswer request bytes (Err fault))
            → GivesAnswer commands executable output errors answer status → Serves commands request input output errors status
        given answer ok err gives = given_by answer ok err (subst (λ e. GivesAnswer commands e output errors answer status) same gives)

      pub unread : (fault : ReadFault) → WantsStreamFault input.faults_before input.faults_after
          (IsUnended input.before input.after input.reads_before input.reads_after) fault
          → Refuses output errors (unread_line executable fault) 4 status → Serves commands request input output errors status
      unread Stream failed refuses = (in_time, inr (inl (failed, subst (λ e. Refuses output errors (stream_line e) 4 status) same refuses)))
      unread Memory quiet refuses = (in_time, inr (inr (quiet, subst (λ e. Refuses output errors (memory_line e) 4 status) same refuses)))

    module _ (words : List (List ℕ)) where
      declined : commands.request_of words ≡ None → Declines commands words input output errors status
          → ServesWords commands words input output errors status
      declined none declines = inl (subst (λ asked. ServesChoice commands asked words input output errors status) (sym none) declines)

      pub helped : (text : List ℕ) → commands.request_of words ≡ None → AskForHelp commands.executable words → input.IsUntouched
          → Puts executable output errors text status → ServesWords commands words input output errors status
      helped text none asks untouched puts =
          declined none (untouched, (text, inl (asks, subst (λ e. Puts e output errors text status) same puts)))

      pub refused : (text : List ℕ) → commands.request_of words ≡ None → AreRefused commands.executable words → input.IsUntouched
          → Refuses output errors text 2 status → ServesWords commands words input output errors status
      refused text none are untouched refuses = declined none (untouched, (text, inr (are, refuses)))

      -- memory ran out before anything was read
      pub no-memory : input.IsUntouched → Refuses output errors (memory_line executable) 4 status
          → ServesWords commands words input output errors status
      no-memory untouched refuses = inr (untouched, subst (λ e. Refuses output errors (memory_line e) 4 status) same refuses)

-- after a call that left the reader and both writers as they were
pub unmoved : {A F R W E : Type 0} (commands : CommandSet A F) (taken : R → Taken) (put : W → Written) (told : E → Written) (request : A) (status : ℕ)
    (input input' : R) (output output' : W) (errors errors' : E) → (input' ≡ input) × (output' ≡ output) × (errors' ≡ errors)
    → Serves commands request (taken input') (put output') (told errors') status → Serves commands request (taken input) (put output) (told errors) status
unmoved commands taken put told request status input input' output output' errors errors' same serves =
    subst (λ it. Serves commands request (taken it) (put output) (told errors) status) same.0
    (subst (λ it. Serves commands request (taken input') (put it) (told errors) status) same.1
    (subst (λ it. Serves commands request (taken input') (put output') (told it) status) same.2 serves))

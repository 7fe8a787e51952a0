-- What an error says of a command.
use Rattle.std.specs.Prelude.{Result, Ok, Err, IfOk}
use Rattle.std.specs.Result.{IsErrAnd}

-- an error says nothing of a good answer
pub err_says : {X E : Type 0} (Q : E → Type 0) (P : X → Type 0) (r : Result X E) → IsErrAnd r Q → IfOk r P
err_says Q P (Ok x) is = absurd is
err_says Q P (Err e) is = tt

-- What a contract knows of a stream before and after a call.
use Rattle.std.specs.Prelude.{◌≡◌, ◌⊎◌, ℕ, List, Option}
use Rattle.std.specs.Io.KnownBytes.{Appends}
use Rattle.whole_streams.specs.Counts.{CountsOn, FallsByAtMost, HasGrown}
use Rattle.whole_streams.specs.declared.source.TheConstants.{READ_LIMIT}
use Rattle.whole_streams.specs.Streams.{AppendsBeginning, IsUnended}

-- a writer: what was written to it, and its faults
pub record Written : Type 1 where
  pub before : Option (List ℕ)
  pub after : Option (List ℕ)
  pub faults_before : Option ℕ
  pub faults_after : Option ℕ
  pub IsUntouched : Type 0

abbrev pub writing : {S : Type 0} → (S → Option (List ℕ)) → (S → Option ℕ) → S → S → Written
writing contents faults old new = record {
  before = contents old;
  after = contents new;
  faults_before = faults old;
  faults_after = faults new;
  IsUntouched = (new ≡ old);
}

-- a reader: what is left in it, its faults, and how many reads it still allows for
pub record Taken : Type 1 where
  pub before : Option (List ℕ)
  pub after : Option (List ℕ)
  pub faults_before : Option ℕ
  pub faults_after : Option ℕ
  pub reads_before : Option ℕ
  pub reads_after : Option ℕ
  pub IsUntouched : Type 0

abbrev pub reading : {S : Type 0} → (S → Option (List ℕ)) → (S → Option ℕ) → (S → Option ℕ) → S → S → Taken
reading remaining faults reads old new = record {
  before = remaining old;
  after = remaining new;
  faults_before = faults old;
  faults_after = faults new;
  reads_before = reads old;
  reads_after = reads new;
  IsUntouched = (new ≡ old);
}

-- a read failed, or the reader did not end
abbrev pub HasFailed : Taken → Type 0
HasFailed input = HasGrown input.faults_before input.faults_after
    ⊎ IsUnended input.before input.after input.reads_before input.reads_after

-- the reader was read at most READ_LIMIT times
abbrev pub IsReadInTime : Taken → Type 0
IsReadInTime input = FallsByAtMost input.reads_before READ_LIMIT input.reads_after

-- no read failed
abbrev pub HasNotFailed : Taken → Type 0
HasNotFailed input = CountsOn input.faults_before 0 input.faults_after

-- the whole text was written, and no write failed
abbrev pub IsWritten : Written → List ℕ → Type 0
IsWritten output text = Appends output.before output.after text
    × CountsOn output.faults_before 0 output.faults_after

-- a beginning of the text was written, and then a write failed
abbrev pub IsCutOff : Written → List ℕ → Type 0
IsCutOff output text = AppendsBeginning output.before output.after text
    × HasGrown output.faults_before output.faults_after

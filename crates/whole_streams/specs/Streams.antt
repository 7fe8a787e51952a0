-- What reading to the end and writing byte by byte leave in a reader and a writer.
use Rattle.std.specs.Prelude.{◌≡◌, ◌≤◌, ◌⊎◌, ℕ, List, ◌++◌, Option, length}
use Rattle.std.specs.Io.KnownBytes.{Appends, Consumes, IsAtEnd}
use Rattle.whole_streams.specs.Counts.{CountsDown, CountsOn, HasGrown}
use Rattle.whole_streams.specs.declared.source.TheConstants.{READ_LIMIT}
use Rattle.whole_streams.specs.declared.source.ReadFault.{ReadFault}
use Rattle.whole_streams.specs.declared.source.ReadFault.TheVariants.{Stream, Memory}

-- a beginning of bs is written behind the known bytes
abbrev pub AppendsBeginning : Option (List ℕ) → Option (List ℕ) → List ℕ → Type 0
AppendsBeginning old new bs =
    (done : List ℕ) × (rest : List ℕ) × (done ++ rest ≡ bs) × Appends old new done

-- bs are the known bytes up to the end
abbrev pub EndsAfter : Option (List ℕ) → Option (List ℕ) → List ℕ → Type 0
EndsAfter old new bs = Consumes old new bs × IsAtEnd new

-- a reader was read that often, gave a byte at each read, and did not end
abbrev pub IsUnended : Option (List ℕ) → Option (List ℕ) → Option ℕ → Option ℕ → Type 0
IsUnended old new left left' =
    CountsDown left READ_LIMIT left' × ((bs : List ℕ) × (READ_LIMIT ≤ length bs) × Consumes old new bs)

-- a failed stream is reported only if a read failed or the reader did not end, and memory only if no read failed
abbrev pub WantsStreamFault : Option ℕ → Option ℕ → Type 0 → ReadFault → Type 0
WantsStreamFault faults faults' unended Stream = HasGrown faults faults' ⊎ unended
WantsStreamFault faults faults' unended Memory = CountsOn faults 0 faults'

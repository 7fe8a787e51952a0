-- A bit step below a parent gives a colour of one byte.
use Rattle.std.proofs.Common.{◌≢◌, ℕ, ◌^◌, ◌<◌, Some, sym, arith}
use Rattle.cole_vishkin.specs.BitStep.{bit_by}
use Rattle.cole_vishkin.specs.Digits.{difference}
use Rattle.cole_vishkin.specs.declared.step.TheConstants.{IDENTIFIER_DIGITS}
use Rattle.cole_vishkin.proofs.DigitLemmas.{difference-below, digit-small}

pub bit-byte : (own parent : ℕ) → own < 2 ^ IDENTIFIER_DIGITS → parent < 2 ^ IDENTIFIER_DIGITS → parent ≢ own → bit_by own (Some parent) < 256
bit-byte own parent fits high apart =
    let place : difference own parent < IDENTIFIER_DIGITS = difference-below IDENTIFIER_DIGITS own parent fits high (λ e. apart (sym e)) in
    omega (arith, place, digit-small (difference own parent) own)

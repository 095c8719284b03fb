use Rattle.std.proofs.Common.{◌≡◌, ◌⊎◌, inl, inr, ap, List, ℕ, Result, Err}
use Rattle.std.specs.Result.{result_ok}
use Rattle.hex.specs.Hex.{decode_of}
use Rattle.hex.specs.declared.error.FromHexError.{FromHexError}
use Rattle.hex.specs.declared.error.FromHexError.TheVariants as HexErrors
use Rattle.rasn_dynamic_jer.specs.FromJson.{IsUntold, octets_in}
use Rattle.rasn_dynamic_jer.specs.declared.from_json_error.FromJsonError.{FromJsonError}
use Rattle.rasn_dynamic_jer.specs.declared.from_json_error.FromJsonError.TheVariants.{OutOfMemory}
use Rattle.rasn_dynamic_jer.proofs.read_simple.octets_of.Goals as goal

refused : (s : List ℕ) (h : FromHexError) (e : FromJsonError) → (h ≡ HexErrors.OutOfMemory → e ≡ OutOfMemory) → (h ≡ HexErrors.OutOfMemory) ⊎ (decode_of s ≡ Err h) → IsUntold (octets_in s) e
refused s h e f (inl m) = inl (f m)
refused s h e f (inr d) = inr (ap result_ok d)

pub returns-in-Ok : goal.returns-in-Ok
returns-in-Ok c = ap result_ok c.in-Ok.ensures.ok

pub returns-in-Err : goal.returns-in-Err
returns-in-Err c = refused c.args.digits.now c.in-Err.error c.not_hexadecimal.result c.not_hexadecimal.ensures c.in-Err.ensures.err

-- A call in what is left of a script, as one of the script.
use mathlib.Core.Path.{◌≡◌, ap, ◌∙◌}
use mathlib.Core.List.{List}
use Prim.Native.Nat.{ℕ, ◌+◌, ◌-◌, ◌≤◌}
use native.Mathlib.Omega.{arith}
use lib.ListN.{length, drop, length-drop}
use Rattle.buffer.specs.Byte.{at}
use Rattle.script.specs.Script.{call_of, call_at, Fits}
use Rattle.script.specs.declared.Call.{Call}
use Rattle.script.specs.declared.Call.TheVariants.{Request, Line, SetBench, SetOpgBench}
use Rattle.std.specs.Prelude.{None, Option, Some}

ends : (script s : List ℕ) (at n : ℕ) → s ≡ drop at script → 1 ≤ n → n ≤ length s → at + n ≤ length script
ends script s at n e h k = let w : length s ≡ length script - at = ap length e ∙ length-drop at script in omega arith

shift : (script s : List ℕ) (at : ℕ) (k : Option Call) → s ≡ drop at script → Fits (length s) 0 k → Fits (length script) at k
shift script s at (Some (Request to room len)) e f = (f.0, omega (arith, ends script s at (5 + len) e (omega arith) f.1))
shift script s at (Some (Line room)) e f = (f.0, ends script s at 3 e (omega arith) f.1)
shift script s at (Some (SetBench b)) e f = ends script s at 10 e (omega arith) f
shift script s at (Some (SetOpgBench p)) e f = ends script s at 6 e (omega arith) f
shift script s at None e f = tt

-- the call at the front of what is left is the one at this place
pub call_there : (script s : List ℕ) (at : ℕ) {r : Option Call} → s ≡ drop at script → (r ≡ call_of s) × Fits (length s) 0 r
    → (r ≡ call_at script at) × Fits (length script) at r
call_there script s at {r} e q = (q.0 ∙ ap call_of e, shift script s at r e q.1)

-- Line ends and numbers.
use Rattle.std.proofs.Common.{◌≡◌, ℕ, false, List, [], ◌∷◌, ◌++◌, refl, ap}
use Rattle.std.specs.Io.BufRead.{ends_with_byte}
use Rattle.pb_script.specs.Script.{step, numbered_from, numbered}
use Rattle.pb_script.specs.declared.script.Place.TheVariants.{Between}
use Rattle.pb_script.proofs.Scanned.{line_ends, last_end}

pub line_ends_alike : (front back : List ℕ) → ends_with_byte 13 front ≡ false
    → numbered (front ++ 13 ∷ 10 ∷ back) ≡ numbered (front ++ 10 ∷ back)
unfolding numbered
line_ends_alike front back other = ap (numbered_from Between 0 1) (line_ends front back other)

-- an empty line says nothing
pub last_end_lacks : (script : List ℕ) → ends_with_byte 10 script ≡ false → ends_with_byte 13 script ≡ false
    → numbered (script ++ 10 ∷ []) ≡ numbered script
unfolding numbered numbered_from step
last_end_lacks [] feed other = refl
last_end_lacks (first ∷ script) feed other = ap (numbered_from Between 0 1) (last_end first script feed other)

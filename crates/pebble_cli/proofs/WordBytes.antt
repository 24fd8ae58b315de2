-- The bytes of a name are text.
use Rattle.std.proofs.Common.{ℕ, ◌<◌, List, IsUtf8, arith}
use Rattle.std.specs.Str.{IsAscii}
use Rattle.std.proofs.lemmas.Bool.Decides.{nat_tests}
use Rattle.std.proofs.lemmas.Str.{IsUtf8-from_ascii}
use Rattle.std.proofs.lemmas.Str.Ascii.{IsAscii-from_all}
use Rattle.pb_names.specs.Grammar.{IsName, IsNameByte}

ascii_byte : (byte : ℕ) → IsNameByte byte → byte < 128
ascii_byte byte is = grind (arith, nat_tests)

ascii_bytes : (bytes : List ℕ) → IsName bytes → IsAscii bytes
ascii_bytes bytes is = IsAscii-from_all bytes (λ k d h. ascii_byte _ (is.bytes k d h))

pub utf8_word : (bytes : List ℕ) → IsName bytes → IsUtf8 bytes
utf8_word bytes is = IsUtf8-from_ascii bytes (ascii_bytes bytes is)

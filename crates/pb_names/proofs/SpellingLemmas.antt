-- How long names and their parts are.
use Rattle.std.proofs.Common.{◌≡◌, ℕ, ◌≤◌, ◌<◌, ◌^◌, length, arith, refl, length-append}
use Rattle.std.specs.Fmt.{decimal}
use Rattle.std.proofs.lemmas.Fmt.{length-decimal-le}
use Rattle.pb_names.specs.declared.file_kind.FileKind.{FileKind}
use Rattle.pb_names.specs.declared.file_kind.FileKind.TheVariants.{Manifest, Catalogue, Log, Table}
use Rattle.pb_names.specs.Identity.{Identity, IsObject, IsStore}
use Rattle.pb_names.specs.Spelling.{ending, object_name, marker_prefix}

pub length-ending : (kind : FileKind) → length (ending kind) ≡ 4
length-ending Manifest = refl
length-ending Catalogue = refl
length-ending Log = refl
length-ending Table = refl

-- any u64
pub length-decimal-u64 : (number : ℕ) → number < 2 ^ 64 → length (decimal number) ≤ 20
length-decimal-u64 number small = length-decimal-le 20 number (omega arith) (omega arith) small

pub length-decimal-store : (store : ℕ) → IsStore store → length (decimal store) ≤ 1
length-decimal-store store s = length-decimal-le 1 store (omega arith) (omega arith) (omega arith)

pub length-decimal-drawn : (number : ℕ) → number < 2 ^ 62 → length (decimal number) ≤ 19
length-decimal-drawn number small = length-decimal-le 19 number (omega arith) (omega arith) (omega arith)

pub length-object_name : (object : Identity) → IsObject object → length (object_name object) ≤ 25
unfolding object_name
length-object_name object o =
    simp length-append (omega (arith, length-decimal-store object.creator o.creator, length-decimal-drawn object.number o.number))

pub length-marker_prefix : (object : Identity) → IsObject object → length (marker_prefix object) ≤ 30
unfolding marker_prefix
length-marker_prefix object o = simp length-append (omega (arith, length-object_name object o))

-- The current pointer is no numbered file, and a table is no gate log.
use Rattle.std.proofs.Common.{◌≡◌, ℕ, List, ◌++◌, length, drop, get_or, inl, inr, refl, sym, ap, ◌∙◌, arith, length-append}
use Rattle.std.specs.Fmt.{decimal}
use Rattle.std.proofs.lemmas.List.{drop_at}
use Rattle.pb_names.specs.NumberedFile.{IsNumberedFile}
use Rattle.pb_names.specs.Spelling.{current_name, ending, file_name}
use Rattle.pb_names.specs.declared.file_kind.FileKind.{FileKind}
use Rattle.pb_names.specs.declared.file_kind.FileKind.TheVariants.{Manifest, Catalogue, Log, Table}
use Rattle.pb_names.proofs.NumberedFileLemmas.{parts_same}
use Rattle.pb_names.proofs.SpellingLemmas.{length-ending}
use Rattle.pb_recover.specs.Reopened.{IsGateLog}

-- its last four bytes begin with R, and each ending with a point
point_first : (kind : FileKind) → get_or (ending kind) 0 0 ≡ 46
point_first Manifest = refl
point_first Catalogue = refl
point_first Log = refl
point_first Table = refl

ends_apart : (digits : List ℕ) (kind : FileKind) → digits ++ ending kind ≡ current_name → ⊥
unfolding current_name
ends_apart digits kind e =
    let sized : length digits ≡ 3 = omega (arith, ap length e, length-append digits (ending kind), length-ending kind) in
    let letter = sym (point_first kind) ∙ ap (λ text. get_or text 0 0) (sym (drop_at digits (ending kind) 3 sized) ∙ ap (drop 3) e) in
    omega (arith, letter)

pub current_unnumbered : IsNumberedFile current_name → ⊥
current_unnumbered numbered =
    let file = numbered.is in
    ends_apart file.digits numbered.kind (sym file.whole)

-- no number is needed to tell a file of one kind from the current pointer, and from one of another kind
pub no_current : (kind : FileKind) (n : ℕ) → file_name kind n ≡ current_name → ⊥
unfolding file_name
no_current kind n e = ends_apart (decimal n) kind e

pub one_kind : (kind other : FileKind) (m n : ℕ) → file_name kind m ≡ file_name other n → kind ≡ other
unfolding file_name
one_kind kind other m n e = (parts_same (decimal m) (decimal n) kind other e).1

-- a table is no gate log
pub table_apart : (number : ℕ) → IsGateLog (file_name Table number) → ⊥
unfolding file_name
table_apart number (inl e) = ends_apart (decimal number) Table e
table_apart number (inr of) =
    let file = of.2 in
    of.1 (parts_same file.digits (decimal number) of.0 Table (sym file.whole)).1

-- but for the current pointer a gate log is a numbered file
pub log_numbered : (name : List ℕ) → IsGateLog name → (name ≡ current_name → ⊥) → IsNumberedFile name
log_numbered name (inl e) other = absurd (other e)
log_numbered name (inr of) other = record { kind = of.0; is = of.2 }

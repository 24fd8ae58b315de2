use Rattle.std.proofs.Common.{ℕ, List, Result, Ok, Err, IsUtf8, refl}
use Rattle.std.specs.Result.{IsOk, MatchResult}
use Rattle.pb_names.proofs.NumberedFileLemmas.{numeral_parsed, numeral_utf8}
use Rattle.pb_names.proofs.numbered_file.number_of.Goals as goal

ok_from_text : {T E : Type 0} (r : Result T E) (text : List ℕ) (P : T → Type 0) (Q : E → Type 0) → IsUtf8 text
    → MatchResult r P (λ e. (IsUtf8 text → ⊥) × Q e) → IsOk r
ok_from_text (Ok x) text P Q utf8 cases = refl
ok_from_text (Err e) text P Q utf8 cases = absurd (cases.0 utf8)

pub unwrap-requires : goal.unwrap-requires
unwrap-requires c = ok_from_text c.from_utf8.result c.args.digits.now _ _ (numeral_utf8 c.args.digits.now c.requires) c.from_utf8.ensures.cases

pub returns : goal.returns
returns c =
    let text = rw c.unwrap.ensures at c.from_utf8.ensures.cases in
    numeral_parsed c.args.digits.now c.unwrap.result.now c.parse.result c.ok.result c.requires text.0 c.parse.ensures.value.0 c.ok.ensures.value

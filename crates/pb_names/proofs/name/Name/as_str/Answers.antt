use Rattle.std.proofs.Common.{ℕ, List, Result, Ok, Err, IsUtf8, refl, take}
use Rattle.std.specs.Result.{IsOk, MatchResult}
use Rattle.std.proofs.lemmas.Str.{IsUtf8-from_ascii}
use Rattle.pb_names.proofs.name.Name.as_str.Goals as goal

ok_from_text : {T E : Type 0} (r : Result T E) (text : List ℕ) (P : T → Type 0) (Q : E → Type 0) → IsUtf8 text
    → MatchResult r P (λ e. (IsUtf8 text → ⊥) × Q e) → IsOk r
ok_from_text (Ok x) text P Q utf8 cases = refl
ok_from_text (Err e) text P Q utf8 cases = absurd (cases.0 utf8)

pub unwrap-requires : goal.unwrap-requires
unwrap-requires c = ok_from_text c.from_utf8.result (take c.self.inside.len c.self.inside.bytes) _ _ (IsUtf8-from_ascii _ c.self.invariant.ascii) c.from_utf8.ensures.cases

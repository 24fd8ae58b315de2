-- Maps, read at a key.
use Rattle.std.proofs.Common.{◌≡◌, ℕ, List, cond, ◌∙◌}
use Rattle.std.specs.Prelude.{not, None}
use Rattle.std.specs.FinMap.{get, same_map, get-retain_keys}
use Rattle.pb_keys.specs.KeyLaws.{key_cmp_total, key_cmp_exact}
use Rattle.pb_keys.specs.Span.{KeySpan, holds_key}
use Rattle.pb_keys.specs.Map.{Map, cut, without}
use Rattle.pb_keys.proofs.SpanFacts.{alike_keys}
use Rattle.pb_keys.proofs.Tests.{turned}

pub get-cut : (m : Map) (span : KeySpan) (key : List ℕ) → get (cut m span) key ≡ cond (holds_key span key) (get m key) None
get-cut m span key = get-retain_keys m (holds_key span) key (alike_keys (holds_key span) key)

pub get-without : (m : Map) (span : KeySpan) (key : List ℕ) → get (without m span) key ≡ cond (holds_key span key) None (get m key)
get-without m span key =
    get-retain_keys m (λ k. not (holds_key span k)) key (alike_keys (λ k. not (holds_key span k)) key) ∙ turned (holds_key span key) (get m key) None

-- maps that answer alike at every key are equal
pub same_pairs : (m n : Map) → ((key : List ℕ) → get m key ≡ get n key) → m ≡ n
same_pairs m n alike = same_map key_cmp_total key_cmp_exact m n alike

-- What lists of spans hold.
use Rattle.std.proofs.Common.{◌≡◌, ℕ, List, [], ◌∷◌, true, false, cond, refl, sym, ap, ◌∙◌}
use Rattle.std.specs.Prelude.{not, ◌&&◌, ◌||◌}
use Rattle.pb_keys.specs.Order.{is_below}
use Rattle.pb_keys.specs.Key.{prefix_of}
use Rattle.pb_keys.specs.Span.{KeySpan, holds_key, joined}
use Rattle.pb_keys.proofs.OrderFacts.{below_upto}
use Rattle.pb_rows.specs.Over.{with_span, union_of}
use Rattle.pb_rows.specs.Verdict.{is_covered}
use Rattle.pb_rows.proofs.Bits.{one_span}
use Rattle.pb_keys.proofs.Tests.{either_swaps, either_groups}
use Rattle.pb_keys.proofs.EndFacts.{below-lesser, below-greater}

-- spans that overlap or touch hold together what they hold as one
pub holds-joined : (s t : KeySpan) (key : List ℕ) → is_below s.hi t.lo ≡ false → is_below t.hi s.lo ≡ false → holds_key (joined s t) key ≡ (holds_key s key || holds_key t key)
unfolding holds_key
holds-joined s t key h k =
    let p = prefix_of key in
    (λ i. not (below-lesser p s.lo t.lo i) && below-greater p s.hi t.hi i)
    ∙ one_span (is_below p s.lo) (is_below p s.hi) (is_below p t.lo) (is_below p t.hi) (λ c. below_upto p t.lo s.hi c h) (λ a. below_upto p s.lo t.hi a k)

pub is_covered-with_span : (s : KeySpan) (ts : List KeySpan) (key : List ℕ) → is_covered (with_span s ts) key ≡ (holds_key s key || is_covered ts key)
is_covered-with_span s [] key = refl
is_covered-with_span s (t ∷ ts) key =
    elim (is_below s.hi t.lo) as (λ b. is_below s.hi t.lo ≡ b → is_covered (cond b (s ∷ t ∷ ts) (cond (is_below t.hi s.lo) (t ∷ with_span s ts) (with_span (joined s t) ts))) key ≡ (holds_key s key || (holds_key t key || is_covered ts key))) [
      | true ↦ λ e. refl
      | false ↦ λ e. elim (is_below t.hi s.lo) as (λ b. is_below t.hi s.lo ≡ b → is_covered (cond b (t ∷ with_span s ts) (with_span (joined s t) ts)) key ≡ (holds_key s key || (holds_key t key || is_covered ts key))) [
        | true ↦ λ f. ap (λ r. holds_key t key || r) (is_covered-with_span s ts key) ∙ either_swaps (holds_key t key) (holds_key s key) (is_covered ts key)
        | false ↦ λ f. is_covered-with_span (joined s t) ts key ∙ ap (λ r. r || is_covered ts key) (holds-joined s t key e f) ∙ either_groups (holds_key s key) (holds_key t key) (is_covered ts key)
      ] refl
    ] refl

pub is_covered-union_of : (ss ts : List KeySpan) (key : List ℕ) → is_covered (union_of ss ts) key ≡ (is_covered ss key || is_covered ts key)
is_covered-union_of [] ts key = refl
is_covered-union_of (s ∷ ss) ts key =
    is_covered-with_span s (union_of ss ts) key ∙ ap (λ r. holds_key s key || r) (is_covered-union_of ss ts key) ∙ sym (either_groups (holds_key s key) (is_covered ss key) (is_covered ts key))

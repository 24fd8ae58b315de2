-- What each changing command does to a map, read at a key.
use Rattle.std.proofs.Common.{◌≡◌, ℕ, List, [], ◌∷◌, true, false, cond, refl, sym, ap, ◌∙◌, reverse}
use Rattle.std.proofs.lemmas.List.{reverse-append}
use Rattle.std.specs.Prelude.{Some, None, unwrap_or}
use Rattle.std.specs.Option.{option_or}
use Rattle.std.specs.Ordering.{eq_by_cmp}
use Rattle.std.specs.FinMap.{get, get-insert, entries, get-entries}
use Rattle.std.specs.FinMap.Entries.{find}
use Rattle.pb_keys.specs.Key.{key_cmp}
use Rattle.pb_keys.specs.KeyLaws.{key_cmp_total}
use Rattle.pb_keys.specs.Span.{KeySpan, holds_key}
use Rattle.pb_keys.specs.Map.{Map, without}
use Rattle.pb_keys.proofs.MapFacts.{get-without}
use Rattle.pb_rows.specs.Layer.{KeyLayer}
use Rattle.pb_rows.specs.Verdict.{verdict, verdicts}
use Rattle.pb_rows.specs.Applied.{applied, applied_in_turn}
use Rattle.pb_rows.specs.Changing.{with_pairs}
use Rattle.pb_rows.proofs.VerdictLaws.{get-applied, verdicts-append, option_or_none, one_after_other}

last_is_newest : (layer : KeyLayer) (later : List KeyLayer) (key : List ℕ) → verdicts (reverse (layer ∷ later)) key ≡ option_or (verdicts (reverse later) key) (verdict layer key)
last_is_newest layer later key =
    ap (λ layers. verdicts layers key) (reverse-append (layer ∷ []) later) ∙ verdicts-append (reverse later) (layer ∷ []) key
    ∙ ap (option_or (verdicts (reverse later) key)) (option_or_none (verdict layer key))

-- the last layer is the newest
pub get-applied_in_turn : (layers : List KeyLayer) (m : Map) (key : List ℕ) → get (applied_in_turn layers m) key ≡ unwrap_or (verdicts (reverse layers) key) (get m key)
get-applied_in_turn [] m key = refl
get-applied_in_turn (layer ∷ later) m key =
    get-applied_in_turn later (applied layer m) key ∙ ap (unwrap_or (verdicts (reverse later) key)) (get-applied layer m key)
    ∙ one_after_other (verdicts (reverse later) key) (verdict layer key) (get m key)
    ∙ ap (λ found. unwrap_or found (get m key)) (sym (last_is_newest layer later key))

get-pairs : (m : Map) (pairs : List (List ℕ × List ℕ)) (key : List ℕ) → get (with_pairs m pairs) key ≡ option_or (find key_cmp key pairs) (get m key)
get-pairs m [] key = refl
get-pairs m (pair ∷ pairs) key =
    get-insert key_cmp_total (with_pairs m pairs) pair.0 pair.1 key
    ∙ elim (eq_by_cmp key_cmp key pair.0) as (λ b. cond b (Some pair.1) (get (with_pairs m pairs) key) ≡ option_or (cond b (Some pair.1) (find key_cmp key pairs)) (get m key)) [
      | true ↦ refl
      | false ↦ get-pairs m pairs key
    ]

-- the pairs of a map put into another: what the first has, or else what the other has
pub get-with_pairs : (m sub : Map) (key : List ℕ) → get (with_pairs m (entries sub)) key ≡ option_or (get sub key) (get m key)
get-with_pairs m sub key = get-pairs m (entries sub) key ∙ ap (λ found. option_or found (get m key)) (sym (get-entries sub key))

pub get-ingest_excise : (span : KeySpan) (layers : List KeyLayer) (m : Map) (key : List ℕ) → get (applied_in_turn layers (without m span)) key ≡ unwrap_or (verdicts (reverse layers) key) (cond (holds_key span key) None (get m key))
get-ingest_excise span layers m key = get-applied_in_turn layers (without m span) key ∙ ap (unwrap_or (verdicts (reverse layers) key)) (get-without m span key)

pub get-receive : (span : KeySpan) (sub m : Map) (key : List ℕ) → get (with_pairs (without m span) (entries sub)) key ≡ option_or (get sub key) (cond (holds_key span key) None (get m key))
get-receive span sub m key = get-with_pairs (without m span) sub key ∙ ap (option_or (get sub key)) (get-without m span key)

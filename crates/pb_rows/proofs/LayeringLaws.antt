-- Layers put over one another, applied and read at a key.
use Rattle.std.proofs.Common.{◌≡◌, ℕ, List, [], ◌∷◌, refl, sym, ap, ◌∙◌}
use Rattle.std.specs.Prelude.{None, unwrap_or}
use Rattle.std.specs.FinMap.{get}
use Rattle.std.specs.Option.{option_or}
use Rattle.pb_keys.specs.Map.{Map}
use Rattle.pb_keys.proofs.MapFacts.{same_pairs}
use Rattle.pb_rows.specs.Applied.{applied, applied_newest_first}
use Rattle.pb_rows.specs.Layer.{KeyLayer, layer_of}
use Rattle.pb_rows.specs.Over.{over, over_all}
use Rattle.pb_rows.specs.Verdict.{verdict, verdicts}
use Rattle.pb_rows.proofs.VerdictLaws.{get-applied, get-applied_newest_first, verdict-over, one_after_other}

-- ---- what is said decides what is done

pub same_applied : (a b : KeyLayer) → ((key : List ℕ) → verdict a key ≡ verdict b key) → (m : Map) → applied a m ≡ applied b m
same_applied a b alike m = same_pairs (applied a m) (applied b m) (λ key.
    get-applied a m key ∙ ap (λ found. unwrap_or found (get m key)) (alike key) ∙ sym (get-applied b m key))

pub same_applied_newest_first : (xs ys : List KeyLayer) → ((key : List ℕ) → verdicts xs key ≡ verdicts ys key) → (m : Map) → applied_newest_first xs m ≡ applied_newest_first ys m
same_applied_newest_first xs ys alike m = same_pairs (applied_newest_first xs m) (applied_newest_first ys m) (λ key.
    get-applied_newest_first xs m key ∙ ap (λ found. unwrap_or found (get m key)) (alike key) ∙ sym (get-applied_newest_first ys m key))

-- ---- a layer over another does what the older and then the newer do

pub applied-over : (newer older : KeyLayer) (m : Map) → applied (over newer older) m ≡ applied newer (applied older m)
applied-over newer older m = same_pairs (applied (over newer older) m) (applied newer (applied older m)) (λ key.
    get-applied (over newer older) m key
    ∙ ap (λ found. unwrap_or found (get m key)) (verdict-over newer older key)
    ∙ sym (one_after_other (verdict newer key) (verdict older key) (get m key))
    ∙ ap (unwrap_or (verdict newer key)) (sym (get-applied older m key))
    ∙ sym (get-applied newer (applied older m) key))

-- ---- all of a list put over one another

pub nothing_said : (key : List ℕ) → verdict (layer_of [] []) key ≡ None
unfolding verdict
nothing_said key = refl

pub verdict-over_all : (layers : List KeyLayer) (key : List ℕ) → verdict (over_all layers) key ≡ verdicts layers key
verdict-over_all [] key = nothing_said key
verdict-over_all (layer ∷ older) key = verdict-over layer (over_all older) key ∙ ap (option_or (verdict layer key)) (verdict-over_all older key)

pub applied-over_all : (layers : List KeyLayer) (m : Map) → applied (over_all layers) m ≡ applied_newest_first layers m
applied-over_all layers m = same_pairs (applied (over_all layers) m) (applied_newest_first layers m) (λ key.
    get-applied (over_all layers) m key ∙ ap (λ found. unwrap_or found (get m key)) (verdict-over_all layers key) ∙ sym (get-applied_newest_first layers m key))

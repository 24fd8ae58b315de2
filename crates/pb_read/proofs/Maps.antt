-- What memtable and tables say, and the map that they mean.
use Rattle.std.proofs.Common.{◌≡◌, ℕ, List, map, None, sym, ap, ◌∙◌}
use Rattle.std.specs.FinMap.{empty, get, get-empty}
use Rattle.std.specs.Option.{unwrap_or}
use Rattle.pb_keys.specs.Key.{key_cmp}
use Rattle.pb_keys.specs.Map.{Map}
use Rattle.pb_rows.specs.Changing.{Changing, changed}
use Rattle.pb_rows.specs.ChangingLayers.{layer_of_changes}
use Rattle.pb_rows.specs.Layer.{KeyLayer}
use Rattle.pb_rows.specs.Verdict.{Verdict, verdict, verdicts}
use Rattle.pb_rows.proofs.CommandLaws.{does_the_commands}
use Rattle.pb_rows.proofs.VerdictLaws.{get-applied, get-applied_newest_first}
use Rattle.pb_version.specs.Meaning.{layer_of_table, map_of}
use Rattle.pb_version.specs.Version.{VersionView, all_tables}
use Rattle.pb_version.proofs.MeaningLaws.{map_of-newest_first}

-- what the commands say, and else what the map had
pub by_commands : (changes : List Changing) (m : Map) (key : List ℕ) (said : Verdict) → said ≡ verdict (layer_of_changes changes) key
    → unwrap_or said (get m key) ≡ get (changed m changes) key
by_commands changes m key said says =
    ap (λ v. unwrap_or v (get m key)) says ∙ sym (get-applied (layer_of_changes changes) m key)
    ∙ ap (λ (n : Map). get n key) (does_the_commands changes m)

-- what the tables say, and else nothing
pub by_tables : (v : VersionView) (layers : ℕ → KeyLayer) (key : List ℕ) (said : Verdict)
    → said ≡ verdicts (map (layer_of_table layers) (all_tables v)) key → unwrap_or said None ≡ get (map_of v layers) key
by_tables v layers key said says =
    let ls = map (layer_of_table layers) (all_tables v) in
    let nothing : Map = empty in
    ap (λ s. unwrap_or s None) says
    ∙ sym (ap (λ (m : Map). get m key) (map_of-newest_first v layers) ∙ get-applied_newest_first ls nothing key
    ∙ ap (unwrap_or (verdicts ls key)) (get-empty key_cmp key))

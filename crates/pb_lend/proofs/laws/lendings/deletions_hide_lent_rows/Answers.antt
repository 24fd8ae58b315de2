-- What a bundle's map has at a key, by what its layers say of it.
use Rattle.std.proofs.Common.{◌≡◌, ℕ, List, [], ◌∷◌, None, refl, ◌∙◌}
use Rattle.std.specs.FinMap.{get}
use Rattle.std.specs.Option.{option_or, unwrap_or}
use Rattle.pb_keys.specs.Key.{key_cmp}
use Rattle.pb_keys.specs.Span.{holds_key, overlap}
use Rattle.pb_rows.specs.Layer.{KeyLayer}
use Rattle.pb_rows.specs.Over.{over}
use Rattle.pb_rows.specs.Verdict.{verdict, verdicts}
use Rattle.pb_rows.specs.Viewed.{viewed}
use Rattle.pb_version.specs.Version.{VersionView}
use Rattle.pb_lend.specs.Lent.{lent_tables, upper_of, table_layers}
use Rattle.pb_lend.specs.Examples.{c, d, f, span, table, lender, deletes_d, nothing, behind, lent_map}
use Rattle.pb_lend.proofs.CutMaps.{bundle_has}
use Rattle.pb_lend.proofs.laws.lendings.deletions_hide_lent_rows.Goals as goal

map_has : (newest : KeyLayer) (v : VersionView) (from : ℕ) (key : List ℕ) → get (lent_map newest v from) key
    ≡ unwrap_or (option_or (verdict (upper_of newest v from behind span) key) (verdicts (table_layers behind (lent_tables v from span)) key)) None
map_has newest v from key = bundle_has (upper_of newest v from behind span) (lent_tables v from span) behind key

pub returns-clause-of_the_memtable : goal.returns-clause-of_the_memtable
unfolding overlap holds_key key_cmp viewed over verdict
returns-clause-of_the_memtable g = map_has deletes_d (lender [] (table 16 c f ∷ [])) 6 d ∙ refl

pub returns-clause-beside_the_memtable : goal.returns-clause-beside_the_memtable
unfolding overlap holds_key key_cmp viewed over verdict
returns-clause-beside_the_memtable g = map_has deletes_d (lender [] (table 16 c f ∷ [])) 6 c ∙ refl

pub returns-clause-of_a_table_read : goal.returns-clause-of_a_table_read
unfolding overlap holds_key key_cmp viewed over verdict
returns-clause-of_a_table_read g = map_has nothing (lender (table 5 c f ∷ []) (table 16 c f ∷ [])) 6 d ∙ refl

pub returns-clause-beside_a_table_read : goal.returns-clause-beside_a_table_read
unfolding overlap holds_key key_cmp viewed over verdict
returns-clause-beside_a_table_read g = map_has nothing (lender (table 5 c f ∷ []) (table 16 c f ∷ [])) 6 c ∙ refl

pub returns-clause-of_a_table_lent : goal.returns-clause-of_a_table_lent
unfolding overlap holds_key key_cmp viewed over verdict
returns-clause-of_a_table_lent g = map_has nothing (lender (table 15 c f ∷ []) (table 16 c f ∷ [])) 5 d ∙ refl

pub returns-clause-beside_a_table_lent : goal.returns-clause-beside_a_table_lent
unfolding overlap holds_key key_cmp viewed over verdict
returns-clause-beside_a_table_lent g = map_has nothing (lender (table 15 c f ∷ []) (table 16 c f ∷ [])) 5 c ∙ refl

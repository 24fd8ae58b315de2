use Rattle.std.proofs.Common.{◌≡◌, [], ◌∷◌, ◌++◌, arith}
use Rattle.pb_rangedel.proofs.LayerPairs.{alone}
use Rattle.pb_rangedel.proofs.layers.only_of.Goals as goal

pub returns-in-Some : goal.returns-in-Some
returns-in-Some c =
    let layer = c.in-Some.layer in
    let items : c.args.layers.items ≡ c.pop.new.self.items ++ layer ∷ [] = c.in-Some.ensures.items in
    alone c.args.layers.items c.pop.new.self.items layer items (omega arith) c.dels-dels.ensures.in_form

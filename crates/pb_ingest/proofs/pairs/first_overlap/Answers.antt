use Rattle.std.proofs.Common.{sym, subst}
use Rattle.pb_ingest.proofs.PairsFirst.{Finds, finds_first, found_at, found_least, none_found, finds_none}
use Rattle.pb_ingest.proofs.pairs.first_overlap.Goals as goal

pub returns-clause-found : goal.returns-clause-found
returns-clause-found c =
    found_at c.args.hulls.now c.pair_of.result (subst (Finds c.args.hulls.now) (sym c.pair_of.ensures) (finds_first c.args.hulls.now))

pub returns-clause-least : goal.returns-clause-least
returns-clause-least c =
    found_least c.args.hulls.now c.pair_of.result (subst (Finds c.args.hulls.now) (sym c.pair_of.ensures) (finds_first c.args.hulls.now))

pub returns-clause-none : goal.returns-clause-none
returns-clause-none c =
    let finds = subst (Finds c.args.hulls.now) (sym c.pair_of.ensures) (finds_first c.args.hulls.now) in
    (none_found c.args.hulls.now c.pair_of.result finds, finds_none c.args.hulls.now c.pair_of.result finds)

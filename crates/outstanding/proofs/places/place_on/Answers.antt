use Rattle.std.proofs.Common.{rules, IfOk, IfErr, subst}
use Rattle.std.specs.List.Sorted.{IsSearchInRange}
use Rattle.std.proofs.lemmas.Fn.{always_returns_same}
use Rattle.outstanding.specs.Values.{Ask}
use Rattle.outstanding.specs.Orders.{path_cmp, path_number}
use Rattle.outstanding.specs.Tables.{IsAt, IsGap, keys_of, compared_by_number, to_path}
use Rattle.outstanding.proofs.SameOrders.{path_total, path_numbers_tell}
use Rattle.outstanding.proofs.Searches.{searched_by_number}
use Rattle.outstanding.proofs.places.place_on.Given as given
use Rattle.outstanding.proofs.places.place_on.Goals as goal

ends : (g : given.Over) (c : goal.After-binary_search_by g)
    → IfOk c.binary_search_by.result (IsAt (to_path c.args.path) c.args.asks.now (keys_of c.args.keys.now.items)) × IfErr c.binary_search_by.result (IsGap (to_path c.args.path) c.args.asks.now (keys_of c.args.keys.now.items))
ends g c =
    searched_by_number path_cmp path_total (λ (a : Ask). a.path) path_number path_numbers_tell c.args.asks.now c.args.keys.now.items c.requires.covered c.requires.rises c.requires.numbered c.args.path c.number-number.result c.number-number.ensures
    c.binary_search_by.result (subst (IsSearchInRange c.binary_search_by.result) c.args.keys.now.ok.0 c.binary_search_by.ensures.bound)
    (c.binary_search_by.ensures.position (compared_by_number c.number-number.result (to_path c.args.path) c.args.asks.now) (always_returns_same _ _ _ (λ a r h called. search rules)))

pub returns-clause-found : goal.returns-clause-found
returns-clause-found g c = (ends g c).0

pub returns-clause-absent : goal.returns-clause-absent
returns-clause-absent g c = (ends g c).1

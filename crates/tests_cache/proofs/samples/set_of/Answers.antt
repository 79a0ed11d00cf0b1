use Rattle.std.proofs.Common.{refl, ℕ, List, [], ◌∷◌, arith}
use Rattle.std.specs.List.{AllByRecursion}
use Rattle.dns_message.specs.Data.{IsShaped}
use Rattle.dns_message.specs.Shapes.{shape_of}
use Rattle.tests_cache.proofs.samples.set_of.Goals as goal

-- an address has no shape of its own
free : (rows : List (List ℕ)) → AllByRecursion (IsShaped 1) rows
unfolding shape_of
free [] = tt
free (row ∷ rows) = (tt, free rows)

pub invariant_of-result : goal.invariant_of-result
invariant_of-result g c = record {
  key = refl;
  body = record { some = c.requires; shaped = free c.args.rows };
  lifetime = omega arith;
}

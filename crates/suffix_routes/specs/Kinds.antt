-- The kinds of TOML's values.
use Rattle.toml.specs.Data.{Data, string, integer, float, boolean, datetime, array, table}
use Rattle.suffix_routes.specs.declared.kind.Kind.{Kind}
use Rattle.suffix_routes.specs.declared.kind.Kind.TheVariants.{String, Integer, Float, Boolean, Datetime, Array, Table}

-- the kind of a value of TOML
abbrev pub kind_of : Data → Kind
kind_of (string s) = String
kind_of (integer z) = Integer
kind_of (float x) = Float
kind_of (boolean b) = Boolean
kind_of (datetime t) = Datetime
kind_of (array ds) = Array
kind_of (table ms) = Table

-- What a gate tells of the places that it has passed.
use Rattle.std.specs.Prelude.{List, ◌++◌, Option, option_map}
use Rattle.script_run.specs.declared.gate.Place.{Place}

-- these places more, where it tells
abbrev pub passed_more : Option (List Place) → List Place → Option (List Place)
passed_more before places = option_map (λ told. told ++ places) before

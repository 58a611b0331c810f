use Rattle.std.proofs.Common.{◌≡◌, map, take}
use Rattle.clap.specs.Simple.{app_of}
use Rattle.command_words.specs.ClapCommand.{with_flags}
use Rattle.command_words.proofs.parse.with_flags.Given as goal

abbrev pub invariant-loop-name : goal.invariant-loop-name
invariant-loop-name l = app_of l.command ≡ with_flags (app_of l.initial.command) (map (λ s. s.now) (take l.name-index l.flags))

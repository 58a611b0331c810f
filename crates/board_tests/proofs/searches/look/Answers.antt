use Rattle.board_tests.proofs.Searched.{search_rests}
use Rattle.board_tests.proofs.searches.look.Goals as goal

pub returns : goal.returns
returns g c = record { rest = search_rests _ _ _ c.search-front.result _ _ c.requires.rest c.search-front.ensures.of c.search-front.ensures.found (λ at e. let told = c.search-front.ensures.over at e in (told.0, told.1)) c.search-front.ensures.memory }

use Rattle.page_pool.proofs.Giving.{given_found, found_of, found_loader, refused_of, refused_loader}
use Rattle.page_pool.proofs.takes.take.Goals as goal

pub returns-in-Some-find_page-clause-ok : goal.returns-in-Some-find_page-clause-ok
returns-in-Some-find_page-clause-ok c =
    let none = c.in_default.ensures.none in
    let some = c.in-Some-find_page.ensures.some in (some.0, given_found _ c.args.caller.now c.kept_page.new.self _ _ none.0 none.1 some.1)

pub returns-in-Some-find_page-clause-of : goal.returns-in-Some-find_page-clause-of
returns-in-Some-find_page-clause-of c = found_of _ _ c.args.caller.now c.kept_page.new.self _ _ c.in_default.ensures.none.0 c.in-Some-find_page.ensures.some.1 c.requires.fits

pub returns-in-Some-find_page-clause-loader : goal.returns-in-Some-find_page-clause-loader
returns-in-Some-find_page-clause-loader c = found_loader _ c.args.caller.now c.kept_page.new.self _ _ c.in_default.ensures.none.0 c.in-Some-find_page.ensures.some.1 c.requires.loader

pub returns-in-None-clause-of : goal.returns-in-None-clause-of
returns-in-None-clause-of c = refused_of _ _ c.args.caller.now c.kept_page.new.self _ c.in_default.ensures.none.0 c.in-None.ensures.none c.requires.fits

pub returns-in-None-clause-loader : goal.returns-in-None-clause-loader
returns-in-None-clause-loader c = refused_loader _ c.args.caller.now c.kept_page.new.self _ c.in_default.ensures.none.0 c.in-None.ensures.none c.requires.loader

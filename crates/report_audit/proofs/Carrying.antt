-- What single lines carry.
use Rattle.std.proofs.Common.{◌≡◌, ℕ, List, [], ◌∷◌, max, sym, refl, arith}
use Rattle.htss_defs.specs.declared.history.Hit.{Hit}
use Rattle.htss_defs.specs.QueryGraph.{QueryGraph}
use Rattle.report_rules.specs.Answers.{hits_at, not_read, over_at, to_search}
use Rattle.report_rules.specs.Dealing.{Dealt}
use Rattle.report_rules.specs.Faults.{line_by}
use Rattle.report_audit.specs.Tallied.{IsCarried, most}

pub most_none : most [] ≡ 0
most_none = grind arith

pub most_one : (m : ℕ) → m ≡ most (m ∷ [])
most_one m = grind arith

pub carries_nothing : (one : Dealt) (line code : ℕ) → IsCarried (line_by one (to_search (not_read line code))) (record { mark = 0; front = 0; own = 0; words = 0 })
carries_nothing one line code = record { mark = sym most_none; front = sym most_none; own = sym most_none; words = refl }

pub carries_hits : (one : Dealt) (query : QueryGraph) (budget front rows records : ℕ) (hits : List Hit)
    → IsCarried (line_by one (to_search (hits_at query budget front hits rows records))) (record { mark = front; front = front; own = 0; words = 0 })
carries_hits one query budget front rows records hits = record { mark = most_one front; front = most_one front; own = sym most_none; words = refl }

pub carries_over : (one : Dealt) (query : QueryGraph) (budget front : ℕ) → IsCarried (line_by one (to_search (over_at query budget front))) (record { mark = front; front = front; own = 0; words = 0 })
carries_over one query budget front = record { mark = most_one front; front = most_one front; own = sym most_none; words = refl }

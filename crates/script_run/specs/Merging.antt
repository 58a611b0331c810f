-- Lists of several workers, put together in the order of their jobs.
use Rattle.std.specs.Prelude.{◌≡◌, ℕ, ◌==◌, List, [], length, map, filter, zip, get_or}
use Rattle.htss_defs.specs.declared.shape.Shape.{Shape}
use Rattle.script_text.specs.declared.script.Job.{Job}
use Rattle.report_rules.specs.Dealing.{Dealt, dealt_from}
use Rattle.board_jobs.specs.Groups.{place_of}

-- the places of the callers that these jobs are dealt to
abbrev pub places_of : Shape → List Dealt → List ℕ
places_of k jobs = map (λ job. place_of k job.caller) jobs

-- those of a group's jobs that come after so many loads and withdrawals, and so many searches. The group's number does
-- not matter
abbrev pub places_from : Shape → ℕ → ℕ → List Job → List ℕ
places_from k loads searches jobs = places_of k (dealt_from k 0 loads searches jobs)

-- the items that stand where this place is listed
abbrev pub items_at : {A : Type 0} → ℕ → List ℕ → List A → List A
items_at place places items = map (λ (at, item). item) (filter (λ (at, item). at == place) (zip places items))

-- each place has a list with an item for each time that the place is listed
abbrev pub AreQueues : {A : Type 0} → List ℕ → List (List A) → Type 0
AreQueues places queues = (place : ℕ) → length (get_or queues place []) ≡ length (filter (λ at. at == place) places)

-- one list of all these: an item for each place that is listed, and where a place is listed stand the items of its
-- list, in their order
pub record IsMerged {A : Type 0} (places : List ℕ) (queues : List (List A)) (items : List A) : Type 0 where
  pub count : length items ≡ length places
  pub each : (place : ℕ) → items_at place places items ≡ get_or queues place []

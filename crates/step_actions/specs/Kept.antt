-- The invariant of a forwarder without any history.
use Rattle.std.specs.Prelude.{◌≡◌, ℕ, ◌^◌, ◌<◌, ◌≤◌, List, length, Some}
use Rattle.std.specs.List.{AllByRecursion}
use Rattle.suffix_routes.specs.Values.{Config, IsConfig}
use Rattle.outstanding.specs.Lists.{AreListed}
use Rattle.outstanding.specs.Values.{Ask, Inquiries}
use Rattle.suffix_routes.specs.Serving.{serving_route_of}
use Rattle.step_texts.specs.WaitingQuestions.Values.{Waiting}
use Rattle.step_texts.specs.StepTable.Attempts.{peer_at}
use Rattle.record_cache.specs.Values.{Cache}
use Rattle.answer_builder.specs.Answers.{IsEarlier}
use Rattle.step_texts.specs.StepTable.Progress.{AreTakenInTurn, IsTry, IsCacheOf, IsBelow, ArePreferred}

-- a listed ask is for a name of its route; it went to the server at its place, as one of the tries
-- of an inquiry, over a drawn path
pub record IsKeptAsk (c : Config) (moment count : ℕ) (a : Ask) : Type 0 where
  pub earlier : a.asked ≤ moment
  pub on_route : serving_route_of c a.question.name ≡ Some a.route
  pub server : peer_at c a.route a.server ≡ Some a.peer
  pub tries : IsTry c a
  pub path : IsBelow count a.path

-- no held alias of the question was accepted later
abbrev pub HoldsEarlier : ℕ → Waiting → Type 0
HoldsEarlier moment x = AllByRecursion (IsEarlier moment) x.held

-- the cache has the configured capacity, and each entry is within its name's route; both lists are
-- within their limits and in the order of time; no moment, of a held alias neither, is later than
-- the effective moment; and each preferred server is of its group
pub record IsKeptForwarder (c : Config) (store : Cache) (inquiries : Inquiries) (waiting : List Waiting)
    (preferred : List ℕ) (moment count : ℕ)
    : Type 0 where
  pub config : IsConfig c
  pub cache : IsCacheOf c store
  pub accepted : AllByRecursion (IsEarlier moment) store.entries
  pub capacity : inquiries.capacity ≡ c.limits.inquiries
  pub listed : AreListed inquiries
  pub asks : AllByRecursion (IsKeptAsk c moment count) inquiries.asks
  pub few : length waiting ≤ c.limits.questions
  pub by_arrival : AreTakenInTurn waiting
  pub taken : AllByRecursion (λ x. x.taken ≤ moment) waiting
  pub aliases : AllByRecursion (HoldsEarlier moment) waiting
  pub places : ArePreferred c.routes preferred
  pub in_time : moment ≤ 2 ^ 62
  pub counted : count < 2 ^ 64

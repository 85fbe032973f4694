-- Worked examples of the definitions: three likes by two users, two verdicts of four, a look that two slices meet, and hot pages.
use Rattle.std.proofs.Common.{◌≡◌, ℕ, ◌+◌, List, [], ◌∷◌, Option, Some, None, true, false, refl, arith}
use Rattle.std.specs.Prelude.{codes}
use Rattle.like_requests.specs.Pages.{Page}
use Rattle.like_requests.specs.declared.request.Op.TheVariants.{Like, Look}
use Rattle.like_requests.specs.declared.request.PageRef.TheVariants.{Known, Unknown}
use Rattle.like_requests.specs.declared.request.Request.{Request}
use Rattle.like_requests.specs.declared.verdict.Verdict.TheVariants.{OtherHome, UnknownPage, UnknownUser}
use Rattle.like_promises.specs.declared.reply.Reply.{Reply}
use Rattle.like_promises.specs.declared.reply.Reply.TheVariants.{Liked, Seen, Refused}
use Rattle.like_promises.specs.declared.chosen.Chosen.{Chosen}
use Rattle.like_promises.specs.HotPages.{chosen_below, hot_by}
use Rattle.like_promises.specs.Likes.{initial_count, likes, likes_within}
use Rattle.like_promises.specs.Report.{grew}
use Rattle.like_promises.specs.RunStore.{Between, count_at, store_after}
use Rattle.like_promises.specs.declared.log.Ran.{Ran}
use Rattle.like_promises.specs.Replies.{IsRightAnswer}
use Rattle.like_promises.specs.Workload.{Workload}

abbrev page_a : ℕ → Page
page_a count = record { name = codes "a"; count = count; split = true }

abbrev asks_like : ℕ → Request
asks_like user = record { op = Like; user = user; page = Known 0 }

abbrev asks_look : ℕ → Request
asks_look user = record { op = Look; user = user; page = Known 0 }

abbrev runs_at : ℕ → ℕ → ℕ → Reply → Ran
runs_at phase submitter number reply =
    record { phase = phase; submitter = submitter; number = number; stashed = false; reply = reply }

-- three likes of two users
abbrev plain : Workload
plain = record {
  users =
      2;
  pages = page_a 10 ∷ [];
  stash = 256;
  hot = λ _. 0;
  plans = (asks_like 0 ∷ asks_like 1 ∷ asks_like 0 ∷ []) ∷ [];
}

abbrev plain_ran : List Ran
plain_ran = runs_at 0 0 1 Liked ∷ runs_at 0 0 2 Liked ∷ runs_at 0 0 3 Liked ∷ []

plain_count : initial_count plain.pages 0 + likes plain 0 (plain_ran ∷ []) ≡ 13
plain_count = refl

plain_last : (store_after plain plain_ran).last 1 ≡ Some 0
plain_last = refl

plain_first : (store_after plain []).last 0 ≡ None
plain_first = refl

-- two submitters, and the verdicts on three requests of the first
abbrev judged : Workload
judged = record {
  users =
      2;
  pages = page_a 10 ∷ [];
  stash =
      256;
  hot = λ _. 0;
  plans =
      (asks_like 2 ∷ asks_look 1 ∷ (record { op = Like; user = 0; page = Unknown }) ∷ []) ∷ [] ∷ [];
}

unknown_user : IsRightAnswer judged [] (runs_at 0 0 1 (Refused UnknownUser))
unknown_user = refl

other_home : IsRightAnswer judged [] (runs_at 0 0 2 (Refused OtherHome))
other_home = refl

unknown_page : IsRightAnswer judged [] (runs_at 0 0 3 (Refused UnknownPage))
unknown_page = refl

-- two workers: two likes in phase 1, then a look in phase 2
abbrev sliced : Workload
sliced = record {
  users =
      2;
  pages = page_a 100 ∷ [];
  stash =
      256;
  hot = λ _. 0;
  plans = (asks_like 0 ∷ asks_look 0 ∷ []) ∷ (asks_like 1 ∷ []) ∷ [];
}

abbrev look : Ran
look = record { phase = 2; submitter = 0; number = 2; stashed = true; reply = Seen (Some 0) 102 }

abbrev sliced_ran : List Ran
sliced_ran = runs_at 1 0 1 Liked ∷ look ∷ runs_at 1 1 1 Liked ∷ []

look_answer : IsRightAnswer sliced (runs_at 1 0 1 Liked ∷ []) look
look_answer = refl

-- the bounds of the look meet in 102, and a look of the first worker in phase 1, before its like, may see 100 or 101
look_count : Between sliced sliced_ran 2 0 102 (likes_within sliced 0 (runs_at 1 0 1 Liked ∷ []) 2) 0
look_count = record { lower = omega arith; upper = omega arith }

below_1 : count_at sliced sliced_ran 0 1 ≡ 100
below_1 = refl

below_2 : count_at sliced sliced_ran 0 2 ≡ 102
below_2 = refl

-- one user's likes in phases 1 and 2, and a look that waited for phase 4
abbrev chosen : Workload
chosen = record {
  users =
      1;
  pages = page_a 0 ∷ [];
  stash = 256;
  hot = λ _. 0;
  plans = (asks_like 0 ∷ asks_like 0 ∷ asks_look 0 ∷ []) ∷ [];
}

abbrev chosen_ran : List Ran
chosen_ran = runs_at 1 0 1 Liked ∷ runs_at 2 0 2 Liked
    ∷ (record { phase = 4; submitter = 0; number = 3; stashed = true; reply = Seen (Some 0) 2 }) ∷ []

-- the pages that are hot by so many likes
abbrev hot_phases : Option ℕ → List Chosen
hot_phases least = chosen_below (hot_by least 1 (grew chosen chosen_ran)) 6

-- by two likes the page is hot in phase 3 alone, and by three never
hot_by_two : hot_phases (Some 2) ≡ record { phase = 3; mask = 1 } ∷ []
hot_by_two = refl

hot_by_three : hot_phases (Some 3) ≡ []
hot_by_three = refl

-- by one it is in phase 3 too, and not in phase 5, before which there was none
hot_by_one : hot_phases (Some 1) ≡ record { phase = 3; mask = 1 } ∷ []
hot_by_one = refl

never_hot : hot_phases None ≡ []
never_hot = refl

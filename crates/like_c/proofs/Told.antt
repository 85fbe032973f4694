-- The answer in a row is the one that was written there.
use Rattle.std.proofs.Common.{◌≡◌, ◌≢◌, ℕ, if◌then◌else◌, [], ◌∷◌, Option, Some, None, Ok, Err, refl, ap, append-nil, ◌∙◌}
use Rattle.std.specs.Prelude.{flat_map}
use Rattle.std.proofs.lemmas.Bool.{ne_eqb}
use Rattle.like_tables.specs.LastLike.{no_page, page_in, page_or_none}
use Rattle.like_requests.specs.declared.verdict.Verdict.TheVariants.{Accepted, UnknownUser, OtherHome, UnknownPage}
use Rattle.like_seat.specs.declared.seen.Seen.{Seen}
use Rattle.like_live.specs.declared.answer.GlanceAnswer.TheVariants as glance
use Rattle.like_live.specs.declared.answer.LikeAnswer.TheVariants as like
use Rattle.like_live.specs.declared.answer.LookAnswer.TheVariants as look
use Rattle.like_live.specs.declared.call.Answer.{Answer}
use Rattle.like_live.specs.declared.call.Answer.TheVariants as answer
use Rattle.like_live.specs.declared.call.Call.{Call}
use Rattle.like_live.specs.declared.call.Call.TheVariants as call
use Rattle.like_live.specs.Batch.{TellsPage}
use Rattle.like_shared.specs.Rows.{IsAnswerTo, deeds_of_call}
use Rattle.like_c.specs.declared.rows.AnswerRow.{AnswerRow}
use Rattle.like_c.specs.declared.rows.RequestRow.{RequestRow}
use Rattle.like_c.specs.Rows.{call_of, row_of}
use Rattle.like_c.specs.Told.{answer_in, deeds_of_request, deeds_told}

-- a last like of a page
page-in : (last : Option ℕ) → last ≢ Some no_page → page_in (page_or_none last) ≡ last
page-in None not = refl
page-in (Some page) not =
    ap (λ b. if b then None else Some page) (ne_eqb page no_page (λ same. not (ap Some same)))

-- what is shown
seen-in : (shown : Seen) → shown.last ≢ Some no_page
    → ◌≡◌ {A = Seen} (record { last = page_in (page_or_none shown.last); count = shown.count }) shown
seen-in shown not = ap (λ page. record { last = page; count = shown.count }) (page-in shown.last not)

-- the answer to a call
answer-in : (c : Call) (a : Answer) → IsAnswerTo c a → TellsPage a → answer_in c (row_of a) ≡ a ∷ []
answer-in (call.Like user page) (answer.Like like.Liked) to not = refl
answer-in (call.Like user page) (answer.Like like.Between) to not = refl
answer-in (call.Like user page) (answer.Like (like.Refused Accepted)) to not = refl
answer-in (call.Like user page) (answer.Like (like.Refused UnknownUser)) to not = refl
answer-in (call.Like user page) (answer.Like (like.Refused OtherHome)) to not = refl
answer-in (call.Like user page) (answer.Like (like.Refused UnknownPage)) to not = refl
answer-in (call.Like user page) (answer.Like like.Full) to not = refl
answer-in (call.Like user page) (answer.Like like.Gone) to not = refl
answer-in (call.Look user page tag) (answer.Look (look.Seen shown)) to not =
    ap (λ (s : Seen). answer.Look (look.Seen s) ∷ []) (seen-in shown not)
answer-in (call.Look user page tag) (answer.Look look.Waits) to not = refl
answer-in (call.Look user page tag) (answer.Look look.NoRoom) to not = refl
answer-in (call.Look user page tag) (answer.Look look.Between) to not = refl
answer-in (call.Look user page tag) (answer.Look (look.Refused Accepted)) to not = refl
answer-in (call.Look user page tag) (answer.Look (look.Refused UnknownUser)) to not = refl
answer-in (call.Look user page tag) (answer.Look (look.Refused OtherHome)) to not = refl
answer-in (call.Look user page tag) (answer.Look (look.Refused UnknownPage)) to not = refl
answer-in (call.Look user page tag) (answer.Look look.Gone) to not = refl
answer-in (call.Glance user page) (answer.Glance (glance.Seen shown)) to not =
    ap (λ (s : Seen). answer.Glance (glance.Seen s) ∷ []) (seen-in shown not)
answer-in (call.Glance user page) (answer.Glance (glance.Glimpsed shown)) to not =
    ap (λ (s : Seen). answer.Glance (glance.Glimpsed s) ∷ []) (seen-in shown not)
answer-in (call.Glance user page) (answer.Glance glance.Between) to not = refl
answer-in (call.Glance user page) (answer.Glance (glance.Refused Accepted)) to not = refl
answer-in (call.Glance user page) (answer.Glance (glance.Refused UnknownUser)) to not = refl
answer-in (call.Glance user page) (answer.Glance (glance.Refused OtherHome)) to not = refl
answer-in (call.Glance user page) (answer.Glance (glance.Refused UnknownPage)) to not = refl
answer-in (call.Glance user page) (answer.Glance glance.Gone) to not = refl
answer-in (call.Like user page) (answer.Look a) wrong not = absurd (wrong refl)
answer-in (call.Like user page) (answer.Glance a) wrong not = absurd (wrong refl)
answer-in (call.Look user page tag) (answer.Like a) wrong not = absurd (wrong refl)
answer-in (call.Look user page tag) (answer.Glance a) wrong not = absurd (wrong refl)
answer-in (call.Glance user page) (answer.Like a) wrong not = absurd (wrong refl)
answer-in (call.Glance user page) (answer.Look a) wrong not = absurd (wrong refl)

-- the deeds of a request are those of its call with its answer
pub call-deeds : (r : RequestRow) (c : Call) (a : Answer) → call_of r ≡ Ok c → IsAnswerTo c a → TellsPage a
    → deeds_of_request r (row_of a) ≡ deeds_of_call c a
call-deeds r c a asks to page =
    ap (λ x. deeds_told x (row_of a)) asks ∙ ap (flat_map (deeds_of_call c)) (answer-in c a to page)
    ∙ append-nil (deeds_of_call c a)

-- and one that asks for no call has none
pub no-deeds : (r : RequestRow) (row : AnswerRow) → call_of r ≡ Err row → deeds_of_request r row ≡ []
no-deeds r row asks = ap (λ x. deeds_told x row) asks

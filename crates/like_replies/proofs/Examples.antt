-- The rows of a worked example: three likes by two users of whom one has a last like, and a hot page.
use Rattle.std.proofs.Common.{◌≡◌, [], ◌∷◌, None, Some, false, refl}
use Rattle.std.specs.Prelude.{codes, decimal}
use Rattle.like_requests.specs.Pages.{Page}
use Rattle.like_promises.specs.declared.reply.Reply.TheVariants.{Liked}
use Rattle.like_replies.specs.Rows.{report_rows}

abbrev page_a : Page
page_a = record { name = codes "a"; count = 10; split = false }

plain_rows : report_rows (page_a ∷ [])
    (record {
      replies =
          (record { phase = 0; stashed = false; reply = Liked } ∷ []) ∷ [];
      counts =
          13 ∷ [];
      last = None ∷ Some 0 ∷ [];
      hot = record { phase = 3; mask = 1 } ∷ [];
    })
    ≡ (codes "row" ∷ codes "id" ∷ codes "number" ∷ codes "phase" ∷ codes "answer" ∷ codes "page" ∷ codes "count" ∷ [])
    ∷ (codes "reply" ∷ decimal 0 ∷ decimal 1 ∷ decimal 0 ∷ codes "liked" ∷ [] ∷ [] ∷ [])
    ∷ (codes "page" ∷ decimal 0 ∷ [] ∷ [] ∷ [] ∷ codes "a" ∷ decimal 13 ∷ [])
    ∷ (codes "user" ∷ decimal 1 ∷ [] ∷ [] ∷ [] ∷ codes "a" ∷ [] ∷ [])
    ∷ (codes "hot" ∷ decimal 0 ∷ [] ∷ decimal 3 ∷ [] ∷ codes "a" ∷ [] ∷ [])
    ∷ []
plain_rows = refl

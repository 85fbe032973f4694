-- Which requests are accepted, and why the others are not.
use Rattle.std.specs.Prelude.{ℕ, Bool, true, false, not, ◌%◌, ◌==◌, nat_lt, if◌then◌else◌}
use Rattle.like_requests.specs.Types.{Accepted, Known, OtherHome, PageRef, Unknown, UnknownPage, UnknownUser, Verdict}

-- the submitter that serves a user
abbrev pub home : ℕ → ℕ → ℕ
home submitters user = user % submitters

-- whether a page is known
abbrev pub is_known : PageRef → Bool
is_known (Known page) = true
is_known Unknown = false

-- the verdict on a request, `Accepted` or which of these fails first: the user exists, the submitter is the user's home,
-- the page exists
abbrev pub verdict_of : (users submitters submitter user : ℕ) (exists : Bool) → Verdict
verdict_of users submitters submitter user exists =
    if not (nat_lt user users) then UnknownUser
    else (if not (home submitters user == submitter) then OtherHome
    else (if not exists then UnknownPage
    else Accepted))

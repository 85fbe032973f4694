-- Additions to pages' counts, and how many likes those of a list have.
use Rattle.std.specs.Prelude.{ℕ, ◌==◌, ◌&&◌, nat_lt, if◌then◌else◌, List, sum_by}
use Rattle.like_core.specs.Types.{Addition}

-- likes that were added to a page in a phase, when its count was `old`
abbrev pub addition : ℕ → ℕ → ℕ → ℕ → Addition
addition phase page old likes =
    record { phase = phase; page = page; old = old; likes = likes }

-- how many likes were added in all
abbrev pub all_added : List Addition → ℕ
all_added additions = sum_by (λ a. a.likes) additions

-- how many of them to a page
abbrev pub added_to : ℕ → List Addition → ℕ
added_to page additions = sum_by (λ a. (if a.page == page then a.likes else 0)) additions

-- how many of those in one phase
abbrev pub added_in : ℕ → ℕ → List Addition → ℕ
added_in phase page additions =
    sum_by (λ a. (if (a.phase == phase) && (a.page == page) then a.likes else 0)) additions

-- how many of those in the phases before one
abbrev pub added_before : ℕ → ℕ → List Addition → ℕ
added_before phase page additions =
    sum_by (λ a. (if nat_lt a.phase phase && (a.page == page) then a.likes else 0)) additions

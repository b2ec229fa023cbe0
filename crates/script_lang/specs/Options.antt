-- The options of a command.
--     option_name, option_value       the two parts of an option
--     Setting, options                how an option is set, and the options that words set, each at most once
--     commit_options, update_options, versions_given, read_options     the options of commands
use Rattle.std.specs.Prelude.{ℕ, suc, true, false, not, List, [], ◌∷◌, map, length, take, drop, Option, Some, None, is_none, codes}
use Rattle.std.specs.Str.{byte}
use Rattle.frame_core.specs.Texts.{Text}
use Rattle.script_lang.specs.declared.options.CommitOptions.{CommitOptions}
use Rattle.script_lang.specs.declared.options.UpdateOptions.{UpdateOptions}
use Rattle.script_lang.specs.declared.options.ReadOptions.{ReadOptions}
use Rattle.script_lang.specs.Fronts.{◌>>=◌, where_true, whole, each, sign_at}
use Rattle.script_lang.specs.PlainFiles.{column_name_at}
use Rattle.script_lang.specs.Lines.{part_at, between}
use Rattle.script_lang.specs.Moments.{moment_of, version_of, as_of_of, range_of}
use Rattle.script_lang.specs.Words.{under}

-- ---- words

-- an option's name: the word up to its first `=`, or all of it
abbrev pub option_name : Text → Text
option_name word = take (suc (length (part_at (byte "=") word))) word

-- what stands behind the name
abbrev pub option_value : Text → Text
option_value word = drop (suc (length (part_at (byte "=") word))) word

-- what an option's value makes of the options before it, if it has the option's form and the option was not set before
abbrev pub Setting : Type 0 → Type 0
Setting A = A → Text → Option A

-- the options after one more word, whose name the table has
abbrev pub after_option : {A : Type 0} → List (Text × Setting A) → A → Text → Option A
after_option table before word = under (option_name word) table >>= λ setting. setting before (option_value word)

-- the options after these words, in any order
abbrev pub options : {A : Type 0} → List (Text × Setting A) → A → List Text → Option A
options table before [] = Some before
options table before (word ∷ words) = after_option table before word >>= λ next. options table next words

-- ---- commits

-- no option of a commit
abbrev pub plain_commit : CommitOptions
plain_commit = record { at = None; prune = false }

-- `at=M`
abbrev pub set_at : Setting CommitOptions
set_at o value = where_true (is_none o.at) value >>= moment_of >>= λ at. Some (record o { at = Some at })

-- `prune`
abbrev pub set_prune : Setting CommitOptions
set_prune o value = where_true (not o.prune) (record o { prune = true })

-- the options of a commit by their names
abbrev pub commit_settings : List (Text × Setting CommitOptions)
commit_settings = (codes "at=", set_at) ∷ (codes "prune", set_prune) ∷ []

-- the options of a commit
abbrev pub commit_options : List Text → Option CommitOptions
commit_options = options commit_settings plain_commit

-- ---- updates

-- no option of an update
abbrev pub plain_update : UpdateOptions
plain_update = record { range = None; upsert = false; commit = plain_commit }

-- `range=R`
abbrev pub set_update_range : Setting UpdateOptions
set_update_range o value = where_true (is_none o.range) value >>= range_of >>= λ range. Some (record o { range = Some range })

-- `upsert`
abbrev pub set_upsert : Setting UpdateOptions
set_upsert o value = where_true (not o.upsert) (record o { upsert = true })

-- an option of a commit
abbrev pub set_commit : Setting CommitOptions → Setting UpdateOptions
set_commit setting o value = setting o.commit value >>= λ commit. Some (record o { commit = commit })

-- the options of an update by their names
abbrev pub update_settings : List (Text × Setting UpdateOptions)
update_settings = (codes "range=", set_update_range) ∷ (codes "upsert", set_upsert) ∷ map (λ x. (x.0, set_commit x.1)) commit_settings

-- the options of an update
abbrev pub update_options : List Text → Option UpdateOptions
update_options = options update_settings plain_update

-- ---- deletes

-- the numbers of versions between commas
abbrev pub versions_of : Text → Option (List ℕ)
versions_of word = each (map version_of (between (byte ",") word))

-- the versions of a delete, or none where every live one is taken: `version=N,..` or no word
abbrev pub versions_given : List Text → Option (Option (List ℕ))
versions_given [] = Some None
versions_given (word ∷ []) = sign_at (codes "version=") word >>= versions_of >>= λ versions. Some (Some versions)
versions_given _ = None

-- ---- reads

-- the names of columns between commas
abbrev pub columns_of : Text → Option (List Text)
columns_of word = each (map (whole column_name_at) (between (byte ",") word))

-- no option of a read
abbrev pub plain_read : ReadOptions
plain_read = record { as_of = None; range = None; columns = None }

-- `as_of=A`
abbrev pub set_as_of : Setting ReadOptions
set_as_of o value = where_true (is_none o.as_of) value >>= as_of_of >>= λ as_of. Some (record o { as_of = Some as_of })

-- `range=R`
abbrev pub set_read_range : Setting ReadOptions
set_read_range o value = where_true (is_none o.range) value >>= range_of >>= λ range. Some (record o { range = Some range })

-- `columns=C`
abbrev pub set_columns : Setting ReadOptions
set_columns o value = where_true (is_none o.columns) value >>= columns_of >>= λ columns. Some (record o { columns = Some columns })

-- the options of a read by their names
abbrev pub read_settings : List (Text × Setting ReadOptions)
read_settings = (codes "as_of=", set_as_of) ∷ (codes "range=", set_read_range) ∷ (codes "columns=", set_columns) ∷ []

-- the options of a read
abbrev pub read_options : List Text → Option ReadOptions
read_options = options read_settings plain_read

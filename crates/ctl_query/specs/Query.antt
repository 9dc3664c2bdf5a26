-- What the words of a query ask for (apt-cache(8)).
use Rattle.std.specs.Prelude.{ℕ, ◌==◌, ◌||◌, Bool, true, false, not, List, [], ◌∷◌, ◌++◌}
use Rattle.std.specs.Prelude.{take, drop, filter, codes, Option, None, Some, is_some, option_map, Result, Ok, Err, if◌then◌else◌}
use Rattle.std.specs.List.{list_all, prefix_len}
use Rattle.std.specs.Str.{bytes_eq}
use Rattle.ctl_relation.specs.Bytes.{hyphen, equals}
use Rattle.ctl_relation.specs.Names.{is_name}
use Rattle.ctl_store.specs.PinVersions.{is_version}
use Rattle.ctl_store.specs.declared.refusal.Refusal.{Refusal}
use Rattle.ctl_store.specs.declared.refusal.Refusal.TheVariants as refusal
use Rattle.ctl_filter.specs.Query.{FilterQuery, filter_of}
use Rattle.ctl_query.specs.NameSet.{is_among}
use Rattle.ctl_query.specs.Show.{AskedRow}
use Rattle.ctl_query.specs.declared.query.DependsOptions.{DependsOptions}
use Rattle.ctl_query.specs.declared.query_name.CacheQuery.{CacheQuery}
use Rattle.ctl_query.specs.declared.query_name.CacheQuery.TheVariants as name
use Rattle.ctl_query.specs.declared.query_name.QueryName.{QueryName}
use Rattle.ctl_query.specs.declared.query_name.QueryName.TheVariants.{Filter as FilterName, Cache}

pub data Query : Type 0 where
  -- whether all known names are asked for, and the prefix
  PackageNames : Bool → List ℕ → Query
  -- whether all versions are
  Show : Bool → List AskedRow → Query
  Depends : DependsOptions → List (List ℕ) → Query
  -- whether what is installed alone is
  ReverseDepends : Bool → List (List ℕ) → Query
  -- whether important dependencies alone are
  Unmet : Bool → Query
  Policy : List (List ℕ) → Query
  ShowPackage : List (List ℕ) → Query
  -- what grep-dctrl(1) is asked for
  Filter : FilterQuery → Query

-- ---- names and options

abbrev pub query_named : List ℕ → Option CacheQuery
query_named word =
    if bytes_eq word (codes "pkgnames") then Some name.PackageNames else (
    if bytes_eq word (codes "show") then Some name.Show else (
    if bytes_eq word (codes "depends") then Some name.Depends else (
    if bytes_eq word (codes "rdepends") then Some name.ReverseDepends else (
    if bytes_eq word (codes "unmet") then Some name.Unmet else (
    if bytes_eq word (codes "policy") then Some name.Policy else (
    if bytes_eq word (codes "showpkg") then Some name.ShowPackage else None))))))

-- the query of grep-dctrl(1), whose words are its own
unfoldable pub is_filter_name : List ℕ → Bool
is_filter_name word = bytes_eq word (codes "grep-dctrl")

-- the query of a name, if there is one
abbrev pub query_name_of : List ℕ → Option QueryName
query_name_of word = if is_filter_name word then Some FilterName else option_map (λ query. Cache query) (query_named word)

-- whether a command of this name is a query
unfoldable pub is_query : List ℕ → Bool
is_query name = is_filter_name name || is_some (query_named name)

-- whether words begin with the name of a query
unfoldable pub begin_query : List (List ℕ) → Bool
begin_query [] = false
begin_query (name ∷ words) = is_query name

-- the options of each query
abbrev pub options_of : CacheQuery → List (List ℕ)
options_of name.PackageNames = codes "--all-names" ∷ []
options_of name.Show = codes "-a" ∷ codes "--all-versions" ∷ codes "--no-all-versions" ∷ []
options_of name.Depends = codes "-i" ∷ codes "--important" ∷ codes "--installed" ∷ []
options_of name.ReverseDepends = codes "--installed" ∷ []
options_of name.Unmet = codes "-i" ∷ codes "--important" ∷ []
options_of name.Policy = []
options_of name.ShowPackage = []

-- a word that begins with a hyphen is an option, wherever it stands
abbrev pub is_option : List ℕ → Bool
is_option [] = false
is_option (b ∷ word) = b == hyphen

abbrev pub is_argument : List ℕ → Bool
is_argument word = not (is_option word)

abbrev pub is_important : List (List ℕ) → Bool
is_important options = is_among options (codes "-i") || is_among options (codes "--important")

abbrev pub is_installed_alone : List (List ℕ) → Bool
is_installed_alone options = is_among options (codes "--installed")

abbrev pub depends_options : List (List ℕ) → DependsOptions
depends_options options = record { important = is_important options; installed = is_installed_alone options }

-- of the options of `show` the last one counts
abbrev pub shows_all_after : Bool → List (List ℕ) → Bool
shows_all_after all [] = all
shows_all_after all (option ∷ options) = shows_all_after (not (bytes_eq option (codes "--no-all-versions"))) options

abbrev pub shows_all : List (List ℕ) → Bool
shows_all options = shows_all_after true options

-- ---- arguments

abbrev pub names_asked : (List (List ℕ) → Query) → List (List ℕ) → Result Query Refusal
names_asked query words = if list_all is_name words then Ok (query words) else Err refusal.Name

-- the same of one word at least
abbrev pub some_names_asked : (List (List ℕ) → Query) → List (List ℕ) → Result Query Refusal
some_names_asked query [] = Err refusal.Usage
some_names_asked query (word ∷ words) = names_asked query (word ∷ words)

abbrev pub is_before_equals : ℕ → Bool
is_before_equals b = not (b == equals)

abbrev pub version_asked : List ℕ → Result (List ℕ) Refusal
version_asked text = if is_version text then Ok text else Err refusal.Version

abbrev pub row_at_version : List ℕ → Result (List ℕ) Refusal → Result AskedRow Refusal
row_at_version name (Ok version) = Ok (record { name = name; version = Some version })
row_at_version name (Err cause) = Err cause

-- a version behind its sign, if there is one
abbrev pub row_of_parts : List ℕ → List ℕ → Result AskedRow Refusal
row_of_parts name [] = Ok (record { name = name; version = None })
row_of_parts name (sign ∷ text) = row_at_version name (version_asked text)

-- `NAME`, or `NAME=VERSION` cut at the first `=`
abbrev pub row_asked : List ℕ → Result AskedRow Refusal
row_asked word =
    let n = prefix_len is_before_equals word in
    if is_name (take n word) then row_of_parts (take n word) (drop n word) else Err refusal.Name

abbrev pub onto_rows : List AskedRow → Result (List AskedRow) Refusal → Result (List AskedRow) Refusal
onto_rows front (Ok rows) = Ok (front ++ rows)
onto_rows front (Err cause) = Err cause

abbrev pub behind_row : Result AskedRow Refusal → Result (List AskedRow) Refusal → Result (List AskedRow) Refusal
behind_row (Ok row) rows = onto_rows (row ∷ []) rows
behind_row (Err cause) rows = Err cause

-- the first refusal counts, from left to right
abbrev pub rows_asked : List (List ℕ) → Result (List AskedRow) Refusal
rows_asked [] = Ok []
rows_asked (word ∷ words) = behind_row (row_asked word) (rows_asked words)

abbrev pub show_of : Bool → Result (List AskedRow) Refusal → Result Query Refusal
show_of all (Ok rows) = Ok (Show all rows)
show_of all (Err cause) = Err cause

-- ---- queries

-- what a query asks for by its options, which are its own, and its arguments
abbrev pub query_by : CacheQuery → List (List ℕ) → List (List ℕ) → Result Query Refusal
query_by name.PackageNames options [] = Ok (PackageNames (is_among options (codes "--all-names")) [])
query_by name.PackageNames options (prefix ∷ []) = Ok (PackageNames (is_among options (codes "--all-names")) prefix)
query_by name.PackageNames options (prefix ∷ word ∷ words) = Err refusal.Usage
query_by name.Show options [] = Err refusal.Usage
query_by name.Show options (word ∷ words) = show_of (shows_all options) (rows_asked (word ∷ words))
query_by name.Depends options words = some_names_asked (Depends (depends_options options)) words
query_by name.ReverseDepends options words = some_names_asked (ReverseDepends (is_installed_alone options)) words
query_by name.Unmet options [] = Ok (Unmet (is_important options))
query_by name.Unmet options (word ∷ words) = Err refusal.Usage
query_by name.Policy options words = names_asked (λ names. Policy names) words
query_by name.ShowPackage options words = some_names_asked (λ names. ShowPackage names) words

abbrev pub query_in : CacheQuery → List (List ℕ) → Result Query Refusal
query_in name words =
    if list_all (is_among (options_of name)) (filter is_option words)
    then query_by name (filter is_option words) (filter is_argument words)
    else Err refusal.Usage

abbrev pub asked_filter : Result FilterQuery Refusal → Result Query Refusal
asked_filter (Ok filter) = Ok (Filter filter)
asked_filter (Err cause) = Err cause

-- What the words behind the name of a query ask for, or the first of these refusals: an option that is not the query's, or a
-- wrong number of arguments; and, argument by argument from the left, a bad name or version. Of grep-dctrl what its filter is
-- refused for.
abbrev pub query_behind : QueryName → List (List ℕ) → Result Query Refusal
query_behind FilterName words = asked_filter (filter_of words)
query_behind (Cache query) words = query_in query words

abbrev pub query_if : Option QueryName → List (List ℕ) → Result Query Refusal
query_if None words = Err refusal.Command
query_if (Some name) words = query_behind name words

-- what words ask for: the name of a query, and the words behind it
abbrev pub query_of : List (List ℕ) → Result Query Refusal
query_of [] = Err refusal.Command
query_of (word ∷ words) = query_if (query_name_of word) words

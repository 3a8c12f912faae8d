-- What is taken in, as the relation says.
use Rattle.meaning.specs.Expression.{Expression, Arguments}
use Rattle.rules.specs.Takes.{IsLiteral, Takes}
use Rattle.rules.specs.Taking.{leading, taken, left, taken_count, taken_with, left_with, taken_count_with}

pub takes : (xs : Arguments) → Takes (taken_count xs) xs (taken xs) (left xs)
unfolding taken left taken_count taken_with left_with taken_count_with leading
takes Arguments.no_arguments = Takes.at_end
takes (Arguments.spread_argument l x xs) = Takes.at_spread
takes (Arguments.argument (Expression.string l u) xs) = Takes.literal IsLiteral.string (takes xs)
takes (Arguments.argument (Expression.number l u) xs) = Takes.literal IsLiteral.number (takes xs)
takes (Arguments.argument (Expression.boolean l u) xs) = Takes.literal IsLiteral.boolean (takes xs)
takes (Arguments.argument (Expression.null l) xs) = Takes.literal IsLiteral.null (takes xs)
takes (Arguments.argument (Expression.array l es) xs) = Takes.array (takes xs)
takes (Arguments.argument x xs) = Takes.at_other tt

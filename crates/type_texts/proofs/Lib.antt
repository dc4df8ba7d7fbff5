mod NamesRead
mod Behind
mod TypesWritten

mod Coming
mod Listed
mod RunsOfFolders
mod ReadFiles

mod OneText
mod OneForm
